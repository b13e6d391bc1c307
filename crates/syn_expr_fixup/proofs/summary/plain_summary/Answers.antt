use Rattle.std.proofs.Common.{◌∙◌}
use Rattle.syn_expr_fixup.proofs.Nodes.{plain_leaf, plain_paren, plain_prefix, plain_infix, plain_postfix, plain_tail, plain_frame}
use Rattle.syn_expr_fixup.proofs.summary.plain_summary.Goals as goal

pub returns-in-Leaf : goal.returns-in-Leaf
returns-in-Leaf c = λ t h a. plain_leaf t c.in-Leaf.kind c.leaf_summary.result (h ∙ c.in-Leaf.is) c.leaf_summary.ensures

pub returns-in-Paren : goal.returns-in-Paren
returns-in-Paren c = λ t h a. c.closed.ensures ∙ plain_paren t (h ∙ c.in-Paren.is)

pub returns-in-Prefix : goal.returns-in-Prefix
returns-in-Prefix c = λ t h a. plain_prefix t c.in-Prefix.kind c.args.first c.args.second c.prefix_summary.result (h ∙ c.in-Prefix.is) a c.prefix_summary.ensures

pub returns-in-Infix : goal.returns-in-Infix
returns-in-Infix c = λ t h a. c.infix_summary.ensures ∙ plain_infix t c.in-Infix.op c.args.first c.args.second (h ∙ c.in-Infix.is) a

pub returns-in-Postfix : goal.returns-in-Postfix
returns-in-Postfix c = λ t h a. plain_postfix t c.in-Postfix.kind c.args.first c.args.second c.postfix_summary.result (h ∙ c.in-Postfix.is) a c.postfix_summary.ensures

pub returns-in-Tail : goal.returns-in-Tail
returns-in-Tail c = λ t h a. plain_tail t c.in-Tail.kind c.args.first c.args.second c.tail_summary.result (h ∙ c.in-Tail.is) a c.tail_summary.ensures

pub returns-in-Frame : goal.returns-in-Frame
returns-in-Frame c = λ t h a. plain_frame t c.in-Frame.kind c.frame_summary.result (h ∙ c.in-Frame.is) c.frame_summary.ensures
