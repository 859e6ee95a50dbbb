use Rattle.engine.proofs.look.is_refused_ahead.Goals as goal

pub returns-else-breaks_rule : goal.returns-else-breaks_rule
returns-else-breaks_rule c = simp (← c.breaks_rule.ensures, c.if-breaks_rule.false, c.sender_in.ensures)
