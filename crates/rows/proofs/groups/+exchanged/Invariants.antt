use Rattle.rows.proofs.groups.+exchanged.Given as goal

-- The groups that are left to go into.
abbrev pub decreases-exchanged : goal.decreases-exchanged
decreases-exchanged l = l.depth
