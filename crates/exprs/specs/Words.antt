-- The options of a call, and what each sets.
use Rattle.std.specs.Prelude.{ℕ, List, true, false, codes}
use Rattle.syn_expr.specs.declared.print.Position.TheVariants as at
use Rattle.exprs.specs.declared.args.Setting.{Setting}
use Rattle.exprs.specs.declared.args.Setting.TheVariants as option
use Rattle.exprs.specs.declared.args.Settings.{Settings}

abbrev pub word : Setting → List ℕ
word option.Plain = codes "--plain"
word option.Stmt = codes "--stmt"
word option.Cond = codes "--cond"
word option.Arm = codes "--arm"
word option.Bare = codes "--bare"
word option.Blocks = codes "--blocks"
word option.Dump = codes "--dump"
word option.Tidy = codes "--tidy"
word option.Kinds = codes "--kinds"

abbrev pub none_set : Settings
none_set = record { position = at.Plain; bare = false; blocks = false; dump = false; tidy = false; kinds = false }

abbrev pub with_setting : Setting → Settings → Settings
with_setting option.Plain s = record { position = at.Plain; bare = s.bare; blocks = s.blocks; dump = s.dump; tidy = s.tidy; kinds = s.kinds }
with_setting option.Stmt s = record { position = at.Stmt; bare = s.bare; blocks = s.blocks; dump = s.dump; tidy = s.tidy; kinds = s.kinds }
with_setting option.Cond s = record { position = at.Cond; bare = s.bare; blocks = s.blocks; dump = s.dump; tidy = s.tidy; kinds = s.kinds }
with_setting option.Arm s = record { position = at.Arm; bare = s.bare; blocks = s.blocks; dump = s.dump; tidy = s.tidy; kinds = s.kinds }
with_setting option.Bare s = record { position = s.position; bare = true; blocks = s.blocks; dump = s.dump; tidy = s.tidy; kinds = s.kinds }
with_setting option.Blocks s = record { position = s.position; bare = s.bare; blocks = true; dump = s.dump; tidy = s.tidy; kinds = s.kinds }
with_setting option.Dump s = record { position = s.position; bare = s.bare; blocks = s.blocks; dump = true; tidy = s.tidy; kinds = s.kinds }
with_setting option.Tidy s = record { position = s.position; bare = s.bare; blocks = s.blocks; dump = s.dump; tidy = true; kinds = s.kinds }
with_setting option.Kinds s = record { position = s.position; bare = s.bare; blocks = s.blocks; dump = s.dump; tidy = s.tidy; kinds = true }
