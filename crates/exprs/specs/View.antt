-- The settings of a call, and a file, as the answers speak of them.
use Rattle.std.specs.Prelude.{ℕ, List}
use Rattle.syn_expr.specs.Texts.{position_of}
use Rattle.exprs.specs.Answers.{Source, separator}
use Rattle.exprs.specs.declared.args.Settings.{Settings}

abbrev pub source_of : Settings → List ℕ → List ℕ → Source
source_of settings name bytes = record {
  position = position_of settings.position;
  bare = settings.bare;
  dump = settings.dump;
  tidy = settings.tidy;
  kinds = settings.kinds;
  separator = separator settings.blocks;
  name = name;
  whole = bytes;
}
