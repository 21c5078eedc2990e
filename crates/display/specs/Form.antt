-- Whether a payload is well formed, asked by itself: what the readers have in common (house).
use Rattle.std.specs.Prelude.{ℕ, List, [], Result}
use Rattle.refusal.specs.Refusal.{Told, refuses, gives, says, ruled}
use Rattle.refusal.specs.declared.Refusal.{Refusal}
use Rattle.display.specs.Text.{read_text_rules}

-- the reader's rules, with nothing to say where none of them holds
unfoldable pub forming : ℕ → ℕ → List ℕ → Told
forming own most p = ruled (read_text_rules own most p) refuses (gives [])

-- what an answer says: nothing of what it hands back, or its refusal
abbrev pub told_form : {A : Type 0} → Result A Refusal → Told
told_form = says (λ parts. [])
