use mathlib.Core.Path.{refl, sym}
use Rattle.std.proofs.lemmas.Result.{err_from_is_err_and}
use Rattle.rules.proofs.Meaning.OneAnswer.{refused_not_0}
use Rattle.vote.proofs.Entries.{send_no_record, send_refused, send_other_length, send_writes}
use Rattle.vote.proofs.sent.Goals as goal

pub returns-then-not-is_record-clause-number : goal.returns-then-not-is_record-clause-number
returns-then-not-is_record-clause-number c =
    (send_no_record _ c.args.ballot.now (sym c.if-not-is_record.ensures)).0

pub returns-then-not-is_record-clause-zeros : goal.returns-then-not-is_record-clause-zeros
returns-then-not-is_record-clause-zeros c = sym (send_no_record _ _ (sym c.if-not-is_record.ensures)).1

pub returns-in_err-five-clause-number : goal.returns-in_err-five-clause-number
returns-in_err-five-clause-number c =
    let p = err_from_is_err_and c.from_residual.result c.from_residual.ensures.1 in
    rw (p.1, p.2)
    (send_refused _ c.args.ballot.now _ _ (sym c.if-not-is_record.ensures) c.head_at.ensures c.in_err-five.ensures (refused_not_0 _)).0

pub returns-in_err-five-clause-zeros : goal.returns-in_err-five-clause-zeros
returns-in_err-five-clause-zeros c =
    let p = err_from_is_err_and c.from_residual.result c.from_residual.ensures.1 in
    rw p.1
    (sym (send_refused _ _ _ _ (sym c.if-not-is_record.ensures) c.head_at.ensures c.in_err-five.ensures (refused_not_0 _)).1)

pub returns-then-ballot-ne-BALLOT_BYTES-clause-number :
    goal.returns-then-ballot-ne-BALLOT_BYTES-clause-number
returns-then-ballot-ne-BALLOT_BYTES-clause-number c =
    (send_other_length _ _ _ _ (sym c.if-not-is_record.ensures) c.head_at.ensures c.in_ok-five.ensures refl
    c.if-ballot-ne-BALLOT_BYTES.true).0

pub returns-then-ballot-ne-BALLOT_BYTES-clause-zeros :
    goal.returns-then-ballot-ne-BALLOT_BYTES-clause-zeros
returns-then-ballot-ne-BALLOT_BYTES-clause-zeros c =
    sym
    (send_other_length _ _ _ _ (sym c.if-not-is_record.ensures) c.head_at.ensures c.in_ok-five.ensures refl
    c.if-ballot-ne-BALLOT_BYTES.true).1

pub returns-clause-number : goal.returns-clause-number
returns-clause-number c =
    (send_writes _ _ _ _ (sym c.if-not-is_record.ensures) c.head_at.ensures c.in_ok-five.ensures refl
    c.if-ballot-ne-BALLOT_BYTES.false).0

pub returns-clause-five : goal.returns-clause-five
returns-clause-five c =
    (send_writes _ _ _ _ (sym c.if-not-is_record.ensures) c.head_at.ensures c.in_ok-five.ensures refl
    c.if-ballot-ne-BALLOT_BYTES.false).1
