-- The lower parts of expressions. What a reader must believe, in this order: Form (how a part is read, and what is after
-- one that is), Mark and Text (tokens and their texts), Tree (the trees of types and paths), Same, Part (what spells
-- each part), Kind, Own (the own tokens), and for patterns Pat and PatOwn.
--
-- The rest follows: Equal (what it means that `==` is equality of trees), the tests Fits and PatFits (the laws
-- TestsAreExact and PatternTestsAreExact say that a part passes its test exactly where it is read back from its own tokens,
-- and PartsThatAreReadBackFit before which rests), and Ends (what may come after). Laws, PatLaws and Ends have the
-- statements of the laws, Samples what is computed. Contracts of readers and printers cite the tests, so they are here and
-- not with the proofs.
pub mod Form
pub mod Mark
pub mod Text
pub mod Tree
pub mod Same
pub mod Equal
pub mod Part
pub mod Kind
pub mod Own
pub mod Pat
pub mod PatOwn
pub mod Fits
pub mod PatFits
pub mod Laws
pub mod PatLaws
pub mod Ends
pub mod Samples
