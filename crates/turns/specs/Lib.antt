pub mod Potential
