use Rattle.std.proofs.Common.{ℕ, ◌*◌, List, not, ap, ◌∙◌}
use lib.Dec.{ltb}
use Rattle.rules.specs.Heard.{within}
use Rattle.file.specs.Section.{not_row, losses_of, section_at}
use Rattle.run.proofs.Pieces.{row_of}
use Rattle.run.proofs.sections.losses.Goals as goal

pub returns : goal.returns
unfolding losses_of
returns c =
    let n = c.args.n in
    c.section.ensures (not_row n) (λ body at answer inside r.
    r.says.met ∙ ap (λ (piece : List ℕ). not_row n piece 0) r.shows
    ∙ ap (λ (row : ℕ). not (within n row)) (row_of body at))
    ∙ ap (λ (k : ℕ). section_at c.args.file.now c.args.at (ltb 256 k) (k * n * 4) 4 (not_row n)) (c.from-rounds.ensures ∙ c.count_at.ensures)
