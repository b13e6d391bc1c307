-- What the contracts and the proofs of a program name, of the crates below too: one `use` of this file.
pub use Rattle.syn_tokens.specs.declared.error.Error.{Error}
pub use Rattle.syn_lower_spec.specs.Equal.{IsEqualityOf}
pub use Rattle.syn_lower_spec.specs.Text.{Text}
pub use Rattle.syn_lower_spec.specs.Tree.{ArgumentsTree, AttributeTree, LitTree}
pub use Rattle.syn_lower_spec.specs.declared.label.LitKind.{LitKind}
pub use Rattle.syn_lower_leaves.specs.Value.{int_suffix, int_value}
pub use Rattle.syn_lower_leaves.specs.View.{lit_of}
pub use Rattle.syn_lower_leaves.specs.declared.error.LitError.{LitError}
pub use Rattle.syn_expr_spec.specs.Alone.{behind_attributes, is_closure, is_method_call, is_return}
pub use Rattle.syn_expr_spec.specs.Op.{binary_level}
pub use Rattle.syn_expr_spec.specs.Printed.{in_plain, as_statement, as_condition, as_arm}
pub use Rattle.syn_expr_spec.specs.Tree.{Tree, Children, leaf, lit, paren, attributed, attributed_with, prefixed, unary, infixed, tail, method, none}
pub use Rattle.syn_expr_spec.specs.declared.kinds.BinKind.{BinKind}
pub use Rattle.syn_expr_spec.specs.declared.kinds.UnKind.{UnKind}
pub use Rattle.syn_expr_tokens.specs.View.{bin_kind, un_kind}
pub use Rattle.syn_expr_ast.specs.Attrs.{attrs_of}
pub use Rattle.syn_expr_ast.specs.View.{expr_method_call_of, turbofish_of}
pub use Rattle.syn_expr_ast.specs.declared.atom.ExprLit.{ExprLit}
pub use Rattle.syn_expr_ast.specs.declared.atom.ExprParenOf.{ExprParenOf}
pub use Rattle.syn_expr_ast.specs.declared.operation.ExprBinaryOf.{ExprBinaryOf}
pub use Rattle.syn_expr_ast.specs.declared.operation.ExprUnaryOf.{ExprUnaryOf}
pub use Rattle.syn_expr_ast.specs.declared.trailer.ExprMethodCallOf.{ExprMethodCallOf}
pub use Rattle.syn_expr_core.specs.View.{tree_of}
pub use Rattle.syn_expr_core.specs.declared.expr.Expr.{Expr}
pub use Rattle.syn_expr_flatten.specs.Flat.{IsFlat}
pub use Rattle.syn_expr.specs.Promises.{IsTextOf, IsLaidOut}
pub use Rattle.syn_expr.specs.Texts.{StandsFor, NothingStands}
