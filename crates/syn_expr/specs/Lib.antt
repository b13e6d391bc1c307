pub mod Levels
pub mod Promises
pub mod Texts
pub mod Prelude
pub use Rattle.syn_expr_spec.specs.declared.kinds.BinKind.TheVariants as BinKind
pub use Rattle.syn_expr_spec.specs.declared.kinds.Infix.TheVariants as Infix
pub use Rattle.syn_expr_spec.specs.declared.kinds.Precedence.TheVariants as Precedence
pub use Rattle.syn_expr_spec.specs.declared.kinds.UnKind.TheVariants as UnKind
pub use Rattle.syn_lower_spec.specs.declared.label.LitKind.TheVariants as LitKind
pub use Rattle.syn_expr_core.specs.declared.expr.Expr.TheVariants as Expr
