use Rattle.std.proofs.Common.{ℕ, ◌*◌, List, not, ◌&&◌, ap, ◌∙◌}
use lib.Dec.{eqb, ltb, leb}
use Rattle.file.specs.Section.{not_need, needed_of, section_at}
use Rattle.run.proofs.Pieces.{byte_of}
use Rattle.run.proofs.sections.needed.Goals as goal

pub returns : goal.returns
unfolding needed_of
returns c =
    let n = c.args.n in
    c.section.ensures (not_need n) (λ body at answer inside r.
    r.says.met ∙ ap (λ (piece : List ℕ). not_need n piece 0) r.shows
    ∙ ap (λ (k : ℕ). not (ltb n (k * 2) && leb k n)) (byte_of body at))
    ∙ ap (λ (k : ℕ). section_at c.args.file.now c.args.at (not (eqb k 1)) 1 1 (not_need n)) c.count_at-count.ensures
