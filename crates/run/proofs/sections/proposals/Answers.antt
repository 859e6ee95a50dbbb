use Rattle.std.proofs.Common.{ℕ, Bool, ap, ap₂, ◌∙◌}
use Rattle.rules.specs.Ballot.{not_heads}
use Rattle.file.specs.Section.{not_bit, proposals_of, section_at}
use Rattle.run.proofs.Pieces.{bit_of}
use Rattle.run.proofs.sections.proposals.Goals as goal

pub returns : goal.returns
unfolding proposals_of
returns c =
    let file = c.args.file.now in
    c.section.ensures not_bit (λ body at answer inside r. bit_of body _ at answer r.says.met r.shows)
    ∙ ap₂ (λ (t : Bool) (k : ℕ). section_at file 0 t k 1 not_bit)
    (c.not_heads.ensures ∙ ap not_heads c.from.ensures) c.from-2.ensures
    ∙ ap (λ (k : ℕ). section_at file 0 (not_heads k) k 1 not_bit) c.count_at-n.ensures
