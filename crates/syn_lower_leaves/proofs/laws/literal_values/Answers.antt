use Rattle.syn_lower_leaves.proofs.ValueRows as rows
use Rattle.syn_lower_leaves.proofs.laws.literal_values.Goals as goal

pub returns-clause-integers : goal.returns-clause-integers
returns-clause-integers c = rows.ints

pub returns-clause-floats : goal.returns-clause-floats
returns-clause-floats c = rows.floats

pub returns-clause-chars : goal.returns-clause-chars
returns-clause-chars c = rows.chars

pub returns-clause-bytes : goal.returns-clause-bytes
returns-clause-bytes c = rows.bytes

pub returns-clause-strings : goal.returns-clause-strings
returns-clause-strings c = rows.strs

pub returns-clause-byte_strings : goal.returns-clause-byte_strings
returns-clause-byte_strings c = rows.byte_strs
