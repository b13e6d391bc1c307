-- Operators are equal where their kinds are.
use denote.Enum.Bare.{same_true, true_same}
use Rattle.syn_expr_spec.specs.contracts.kinds.BinKind as bin_type
use Rattle.syn_expr_spec.specs.contracts.kinds.UnKind as un_type
use Rattle.syn_expr_spec.specs.contracts.kinds.Limits as limits_type
use Rattle.syn_lower_spec.specs.Equal.{IsEqualityOf}
use Rattle.syn_expr_tokens.specs.View.{bin_kind, un_kind, limits_kind}
use Rattle.syn_expr_tokens.specs.contracts.same.BinOpPartialEq.TheImpl as bin_eq
use Rattle.syn_expr_tokens.specs.contracts.same.UnOpPartialEq.TheImpl as un_eq
use Rattle.syn_expr_tokens.specs.contracts.same.RangeLimitsPartialEq.TheImpl as limits_eq

pub binary : IsEqualityOf bin_kind bin_eq.ghosts.eq
binary = record { same = λ a b. (λ h. same_true bin_type.the_type tt (bin_kind a) (bin_kind b) h, λ e. true_same bin_type.the_type (bin_kind a) (bin_kind b) e) }

pub prefix : IsEqualityOf un_kind un_eq.ghosts.eq
prefix = record { same = λ a b. (λ h. same_true un_type.the_type tt (un_kind a) (un_kind b) h, λ e. true_same un_type.the_type (un_kind a) (un_kind b) e) }

pub limits : IsEqualityOf limits_kind limits_eq.ghosts.eq
limits = record { same = λ a b. (λ h. same_true limits_type.the_type tt (limits_kind a) (limits_kind b) h, λ e. true_same limits_type.the_type (limits_kind a) (limits_kind b) e) }

pub ruleset equalities = (binary, prefix, limits)
