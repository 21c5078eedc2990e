-- What is noted of records that are read one after another: whether each fits by itself, the highest listed position, the lowest that is owed the list, and the columns of those that are listed (house).
use Rattle.std.specs.Prelude.{ℕ, zero, suc, ◌+◌, min, true, ◌&&◌, List, get_or, set, length, replicate, eqb, ltb}
use Rattle.ground.specs.Choose.{choose}
use Rattle.board.specs.declared.Node.{Node}
use Rattle.board.specs.declared.Columns.{Columns}
use Rattle.board.specs.Node.{none}
use Rattle.setup.specs.Fit.{record_fits}
use Rattle.look.specs.declared.Seen.{Seen}
use Rattle.look.specs.declared.Digest.{Digest}

-- nothing noted yet: all is fit, nobody is listed, and the columns are zeros
abbrev pub zeroed : Digest
zeroed =
    record {
      ok = true;
      top = 0;
      owed = 0;
      columns = record { kinds = replicate 40 0; indexes = replicate 40 0; versions = replicate 40 0; macs = replicate 40 0 };
    }

-- the columns with a record's own in them
abbrev pub with_record : Columns → ℕ → Node → Columns
with_record s i n = record { kinds = set s.kinds i n.kind; indexes = set s.indexes i n.index; versions = set s.versions i n.version; macs = set s.macs i n.mac }

-- the lowest position that is owed the list, once the mark of the record at index i is noted too
abbrev pub owed_first : ℕ → ℕ → ℕ → ℕ
owed_first owed i mark = choose (eqb owed 0 && eqb mark 1) (i + 1) owed

-- the record at index i noted: a record that is not listed leaves the columns as they are
abbrev pub digest_of : ℕ → ℕ → Node → Digest → Digest
digest_of k i n d =
    choose (eqb n.kind 0) (record { ok = d.ok && record_fits k i n; top = d.top; owed = d.owed; columns = d.columns })
    (record { ok = d.ok && record_fits k i n; top = i + 1; owed = owed_first d.owed i n.owed; columns = with_record d.columns i n })

-- past the forty nothing is noted
abbrev pub noted : ℕ → ℕ → Node → Digest → Digest
noted k i n d = choose (ltb i 40) (digest_of k i n d) d

-- the first i records noted
unfoldable pub digest_to : ℕ → List Node → Digest → ℕ → Digest
digest_to k t d zero = d
digest_to k t d (suc i) = digest_of k i (get_or t i none) (digest_to k t d i)

-- all of them noted, and no more than forty
abbrev pub digest_all : ℕ → List Node → Digest → Digest
digest_all k t d = digest_to k t d (min (length t) 40)

-- what was noted of records, as it is seen: what a step sees besides, and the columns
abbrev pub noted_in : Seen → Columns → Digest
noted_in s columns = record { ok = s.ok; top = s.top; owed = s.owed; columns = columns }
