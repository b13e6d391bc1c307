-- The slots that operands begin in, and whether `..` ends the fields.
use Rattle.std.specs.Prelude.{Bool, true, false}
use Rattle.syn_expr_spec.specs.Slot as s
use Rattle.syn_expr_wellformed.specs.declared.slot.Slot.{Slot}
use Rattle.syn_expr_wellformed.specs.declared.slot.Slot.TheVariants as slot

abbrev pub slot_of : Slot → s.Slot
slot_of slot.Elements = s.elements
slot_of slot.Single = s.single
slot_of slot.Counted = s.counted
slot_of (slot.Fields dots) = s.fields
slot_of slot.Conditions = s.conditions
slot_of slot.Loops = s.loops
slot_of slot.Scrutinees = s.scrutinees
slot_of slot.Outputs = s.outputs
slot_of slot.Done = s.done

abbrev pub dots_of : Slot → Bool
dots_of (slot.Fields dots) = dots
dots_of _ = false

-- ---- which slot it is

abbrev pub is_elements : s.Slot → Bool
is_elements s.elements = true
is_elements _ = false

abbrev pub is_single : s.Slot → Bool
is_single s.single = true
is_single _ = false

abbrev pub is_counted : s.Slot → Bool
is_counted s.counted = true
is_counted _ = false

abbrev pub is_fields : s.Slot → Bool
is_fields s.fields = true
is_fields _ = false

abbrev pub is_conditions : s.Slot → Bool
is_conditions s.conditions = true
is_conditions _ = false

abbrev pub is_loops : s.Slot → Bool
is_loops s.loops = true
is_loops _ = false

abbrev pub is_scrutinees : s.Slot → Bool
is_scrutinees s.scrutinees = true
is_scrutinees _ = false

abbrev pub is_outputs : s.Slot → Bool
is_outputs s.outputs = true
is_outputs _ = false
