use mathlib.Core.Path.{refl, sym, ◌∙◌}
use Rattle.rules.proofs.Meaning.Answers.{record_length}
use Rattle.rules.proofs.Meaning.OneAnswer.{refused_not_0}
use Rattle.vote.proofs.Entries.{tick_no_record, tick_refused, tick_stores}
use Rattle.vote.proofs.vote_tick.Goals as goal

pub returns-then-not-is_record-clause-value : goal.returns-then-not-is_record-clause-value
returns-then-not-is_record-clause-value c =
    c.number.ensures ∙ (tick_no_record _ _ _ (sym c.if-not-is_record.ensures)).0

pub returns-then-not-is_record-clause-head_record_after :
    goal.returns-then-not-is_record-clause-head_record_after
returns-then-not-is_record-clause-head_record_after c =
    (tick_no_record _ _ _ (sym c.if-not-is_record.ensures)).1.0

pub returns-then-not-is_record-clause-index_after :
    goal.returns-then-not-is_record-clause-index_after
returns-then-not-is_record-clause-index_after c =
    (tick_no_record _ _ _ (sym c.if-not-is_record.ensures)).1.1

pub store-requires : goal.store-requires
store-requires c = record_length _ (sym c.if-not-is_record.ensures)

pub returns-in-Err-clause-value : goal.returns-in-Err-clause-value
returns-in-Err-clause-value c =
    c.number-in-Err.ensures
    ∙ (tick_refused _ _ _ _ _ (sym c.if-not-is_record.ensures) c.head_at.ensures c.in-Err.ensures (refused_not_0 _)).0

pub returns-in-Err-clause-head_record_after : goal.returns-in-Err-clause-head_record_after
returns-in-Err-clause-head_record_after c =
    (tick_refused _ _ _ _ _ (sym c.if-not-is_record.ensures) c.head_at.ensures c.in-Err.ensures (refused_not_0 _)).1.0

pub returns-in-Err-clause-index_after : goal.returns-in-Err-clause-index_after
returns-in-Err-clause-index_after c =
    c.index.ensures
    ∙ (tick_refused _ _ _ _ _ (sym c.if-not-is_record.ensures) c.head_at.ensures c.in-Err.ensures (refused_not_0 _)).1.1

pub returns-in-Ok-clause-value : goal.returns-in-Ok-clause-value
returns-in-Ok-clause-value c =
    (tick_stores _ _ _ _ _ (sym c.if-not-is_record.ensures) c.head_at.ensures c.in-Ok.ensures refl).0

pub returns-in-Ok-clause-head_record_after : goal.returns-in-Ok-clause-head_record_after
returns-in-Ok-clause-head_record_after c =
    c.store.ensures
    ∙ (tick_stores _ _ _ _ _ (sym c.if-not-is_record.ensures) c.head_at.ensures c.in-Ok.ensures refl).1.0

pub returns-in-Ok-clause-index_after : goal.returns-in-Ok-clause-index_after
returns-in-Ok-clause-index_after c =
    (tick_stores _ _ _ _ _ (sym c.if-not-is_record.ensures) c.head_at.ensures c.in-Ok.ensures refl).1.1
