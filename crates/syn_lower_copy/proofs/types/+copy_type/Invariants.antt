use Rattle.syn_lower.specs.View.{type_of}
use Rattle.syn_lower_copy.proofs.Sizes.{type_size}
use Rattle.syn_lower_copy.proofs.types.+copy_type.Given as goal

abbrev pub decreases-copy_type : goal.decreases-copy_type
decreases-copy_type l = type_size (type_of l.x.now)
