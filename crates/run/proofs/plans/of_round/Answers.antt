use Rattle.std.proofs.Common.{ℕ, ◌*◌, List, take, drop, ap, ◌∙◌}
use Rattle.run.proofs.Parts.{part_of_part, round_inside}
use Rattle.run.proofs.plans.of_round.Goals as goal

pub returns : goal.returns
returns c =
    let file = c.args.file.now in
    let size = c.args.size in
    c.part.ensures ∙ ap (λ (l : List ℕ). take size (drop (c.args.r * size) l)) c.part-all.ensures
    ∙ part_of_part file c.args.start (c.args.rounds * size) (c.args.r * size) size (round_inside c.args.r c.args.rounds size c.requires.is_round)
