use Rattle.std.proofs.Common.{refl, rules}
use Rattle.exprs.proofs.Files.{as_it_is, emptied, writes_prepared}
use Rattle.exprs.proofs.run.write_source.Goals as goal

pub returns-then-not-settings : goal.returns-then-not-settings
returns-then-not-settings g c = writes_prepared _ _ _ _ _ _ _ refl (as_it_is _ _ (search rules)) c.write_text.ensures

pub returns : goal.returns
returns g c = writes_prepared _ _ _ _ _ _ _ c.as_str.ensures.value (emptied _ _ _ (search rules) c.in_ok-text.ensures) c.write_text-2.ensures
