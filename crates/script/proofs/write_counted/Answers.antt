-- `script::write_counted` meets its contract: the count, and behind a space what `spell` ensures of its text.
use Rattle.std.proofs.Common.{eqb-true, refl, sym, subst}
use Rattle.std.proofs.lemmas.Bool.{eqb-false}
use Rattle.std.specs.Io.KnownBytes.{Appends}
use Rattle.script.proofs.Hex.{none_counted, some_counted, thrice}
use Rattle.script.proofs.write_counted.Goals as goal

pub returns-then-is_empty : goal.returns-then-is_empty
returns-then-is_empty g c = subst (Appends _ _) (none_counted c.args.bytes.now (eqb-true _ _ (sym c.if-is_empty.ensures))) c.in_ok-write.ensures.bytes

pub returns : goal.returns
returns g c =
    let written = some_counted c.args.bytes.now _ c.spell-n.new.text c.spell-n.result (eqb-false _ _ (sym c.if-is_empty.ensures)) refl c.spell-n.ensures.value.0 c.spell-n.ensures.value.1 in
    thrice c.write_all-2.result (g.W.Write.contents c.args.to.now) (g.W.Write.contents c.write.new.self) (g.W.Write.contents c.write_all.new.self) (g.W.Write.contents c.write_all-2.new.self) _ _ _ _ c.in_ok-write.ensures.bytes c.in_ok-write_all.ensures.bytes written c.write_all-2.ensures.bytes
