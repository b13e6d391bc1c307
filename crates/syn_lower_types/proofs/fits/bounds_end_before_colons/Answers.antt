use Rattle.std.proofs.Common.{sym}
use Rattle.syn_lower_types.proofs.Fitting.{ends_by_lifetime, ends_by_trait}
use Rattle.syn_lower_types.proofs.fits.bounds_end_before_colons.Goals as goal

pub returns-in-Some-Lifetime : goal.returns-in-Some-Lifetime
returns-in-Some-Lifetime g c = let h = rw c.in-Some-Lifetime.field-0-is at c.in-Some-Lifetime.ensures in sym (ends_by_lifetime g.T.HasTree.tree _ _ _ h)

pub returns-in-Some-Trait : goal.returns-in-Some-Trait
returns-in-Some-Trait g c = let h = rw c.in-Some-Trait.field-0-is at c.in-Some-Trait.ensures in sym (ends_by_trait g.T.HasTree.tree _ _ _ h)
