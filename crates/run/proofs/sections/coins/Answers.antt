use Rattle.std.proofs.Common.{ℕ, not, ap, ◌∙◌}
use lib.Dec.{eqb}
use Rattle.file.specs.Section.{not_bit, coins_of, section_at}
use Rattle.run.proofs.Pieces.{bit_of}
use Rattle.run.proofs.sections.coins.Goals as goal

pub returns : goal.returns
unfolding coins_of
returns c =
    let count = c.args.count in
    c.section.ensures not_bit (λ body at answer inside r. bit_of body _ at answer r.says.met r.shows)
    ∙ ap (λ (k : ℕ). section_at c.args.file.now c.args.at (not (eqb k count)) count 1 not_bit) (c.from-read.ensures ∙ c.count_at.ensures)
