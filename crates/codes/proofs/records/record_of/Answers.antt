use mathlib.Core.Path.{◌∙◌}
use Rattle.std.proofs.Common.{rules}
use Rattle.codes.proofs.HighByteFirst.{two_bytes, set_bytes}
use Rattle.codes.proofs.records.record_of.Goals as goal

pub returns : goal.returns
returns c =
    let phase = c.to_be_bytes.ensures ∙ two_bytes c.args.head.phase (search rules) in
    let zeros = c.to_be_bytes-zeros.ensures ∙ set_bytes c.args.head.zeros (search rules) in
    let ones = c.to_be_bytes-ones.ensures ∙ set_bytes c.args.head.ones (search rules) in
    let blanks = c.to_be_bytes-blanks.ensures ∙ set_bytes c.args.head.blanks (search rules) in
    simp (phase, zeros, ones, blanks, c.code.ensures, c.code-2.ensures, c.code-3.ensures)
