use mathlib.Core.Path.{refl, ◌∙◌}
use Rattle.rules.proofs.Meaning.OneAnswer.{refused_not_0}
use Rattle.vote.proofs.Entries.{start_refused, start_other_length, start_stores}
use Rattle.vote.proofs.vote_start.Goals as goal

pub returns-in-Err-clause-value : goal.returns-in-Err-clause-value
returns-in-Err-clause-value c =
    c.number.ensures ∙ (start_refused c.args.head_record.now _ _ _ _ c.in-Err.ensures (refused_not_0 _)).0

pub returns-in-Err-clause-head_record_after : goal.returns-in-Err-clause-head_record_after
returns-in-Err-clause-head_record_after c = (start_refused _ _ _ _ _ c.in-Err.ensures (refused_not_0 _)).1

pub returns-in-Ok-clause-value : goal.returns-in-Ok-clause-value
returns-in-Ok-clause-value c =
    c.number-in-Ok.ensures ∙ (start_other_length _ _ _ _ _ c.in-Ok.ensures refl c.if-head_record-ne-RECORD_BYTES.true).0

pub returns-in-Ok-clause-head_record_after : goal.returns-in-Ok-clause-head_record_after
returns-in-Ok-clause-head_record_after c =
    (start_other_length _ _ _ _ _ c.in-Ok.ensures refl c.if-head_record-ne-RECORD_BYTES.true).1

pub returns-in-Ok-2-clause-value : goal.returns-in-Ok-2-clause-value
returns-in-Ok-2-clause-value c =
    (start_stores _ _ _ _ _ c.in-Ok.ensures refl c.if-head_record-ne-RECORD_BYTES.false).0

pub returns-in-Ok-2-clause-head_record_after : goal.returns-in-Ok-2-clause-head_record_after
returns-in-Ok-2-clause-head_record_after c =
    c.store.ensures ∙ (start_stores _ _ _ _ _ c.in-Ok.ensures refl c.if-head_record-ne-RECORD_BYTES.false).1
