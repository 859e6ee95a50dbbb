use Rattle.std.proofs.Common.{◌≡◌, ℕ, ◌+◌, ◌*◌, ◌/◌, ◌<◌, ◌≤◌, List, true, false, length, take, drop, refl, sym, ap, ap₂, ◌∙◌, arith, rules, tests}
use Rattle.std.proofs.Math.Nat.{le-div_iff_mul-le}
use borrow.Author.Tests.{lt-ltb, le-ltb}
use Rattle.file.specs.Section.{section_at}
use Rattle.run.proofs.Pieces.{known, there, some_breaks, none_breaks}
use Rattle.run.proofs.sections.section.Goals as goal

pub returns-then-file-start : goal.returns-then-file-start
unfolding section_at
returns-then-file-start g c test says =
    let short : length c.args.file.now < c.args.at + 2 = omega arith in
    rw (lt-ltb _ _ short) refl

pub returns-then-count_breaks : goal.returns-then-count_breaks
unfolding section_at
returns-then-count_breaks g c test says =
    let there : c.args.at + 2 ≤ length c.args.file.now = omega arith in
    rw (le-ltb _ _ there, c.if-count_breaks.true) refl

pub returns-then-file-start-2 : goal.returns-then-file-start-2
unfolding section_at
returns-then-file-start-2 g c test says =
    let there : c.args.at + 2 ≤ length c.args.file.now = omega arith in
    let short : length c.args.file.now < c.args.at + 2 + c.args.size = omega arith in
    rw (le-ltb _ _ there, c.if-count_breaks.false, lt-ltb _ _ short) refl

pub returns-in-Some : goal.returns-in-Some
returns-in-Some g c test says =
    let body = c.part-body.result.now in
    let i = c.in-Some.i in
    let r = c.in-Some.ensures.runs in
    let p = r.0 in
    let size : p.from.size ≡ c.args.width = ap (λ s. s.size) r.1 ∙ c.chunks_exact.ensures.size in
    let rest : p.from.rest.now ≡ body = ap (λ s. s.rest.now) r.1 ∙ c.chunks_exact.ensures.rest in
    let chunks = c.chunks_exact.ensures.runs p p.seen (omega (arith, size)) in
    let inside : p.len * c.args.width ≤ length body = rw (size, rest) at chunks.0 in
    let gives = r.2.1 (λ a b f q. search (rules, tests)) in
    let at : c.saturating_add-start.result ≡ c.args.at + 2 = omega arith in
    let there : i < length body / c.args.width =
    omega (arith, r.2.0, (le-div_iff_mul-le {x = p.len} {y = length body} c.requires.some_bytes).1 inside) in
    let before : (k : ℕ) → k < i → test body (k * c.args.width) ≡ false =
    λ k h.
    known (p.at k) (chunks.2 k) (gives.1 k h)
    (λ x chunk called. sym (says body (k * c.args.width) false (rw (size, rest) at chunk.1)
    (record { shown = x; shows = rw (← size, ← rest) chunk.2.0; says = search (rules, tests) }))) in
    let here : test body (i * c.args.width) ≡ true =
    known (p.at i) (chunks.2 i) gives.0
    (λ x chunk called. sym (says body (i * c.args.width) true (rw (size, rest) at chunk.1)
    (record { shown = x; shows = rw (← size, ← rest) chunk.2.0; says = search (rules, tests) }))) in
    rw (at, c.if-count_breaks.false) (some_breaks c.args.file.now body c.args.at c.args.size c.args.width test (omega arith)
    (c.part-body.ensures ∙ ap (λ (i : ℕ). take c.args.size (drop i c.args.file.now)) at) i there before here)

pub returns : goal.returns
returns g c test says =
    let body = c.part-body.result.now in
    let r = c.in-None.ensures.runs in
    let p = r.0 in
    let size : p.from.size ≡ c.args.width = ap (λ s. s.size) r.1 ∙ c.chunks_exact.ensures.size in
    let rest : p.from.rest.now ≡ body = ap (λ s. s.rest.now) r.1 ∙ c.chunks_exact.ensures.rest in
    let chunks = c.chunks_exact.ensures.runs p p.seen (omega (arith, size)) in
    let many : p.len ≡ length body / c.args.width = chunks.1 r.2.0 ∙ ap₂ (λ (l : List ℕ) (w : ℕ). length l / w) rest size in
    let gives = r.2.1 (λ a b f q. search (rules, tests)) in
    let at : c.saturating_add-start.result ≡ c.args.at + 2 = omega arith in
    let all : (k : ℕ) → k < length body / c.args.width → test body (k * c.args.width) ≡ false =
    λ k h.
    let here : k < p.len = omega (arith, many) in
    known (p.at k) (chunks.2 k)
    (there _ (p.at k) p.items k (λ d. p.reads k d here) (omega (arith, p.long)) (gives k))
    (λ x chunk called. sym (says body (k * c.args.width) false (rw (size, rest) at chunk.1)
    (record { shown = x; shows = rw (← size, ← rest) chunk.2.0; says = search (rules, tests) }))) in
    rw (at, c.if-count_breaks.false) (none_breaks c.args.file.now body c.args.at c.args.size c.args.width test (omega arith)
    (c.part-body.ensures ∙ ap (λ (i : ℕ). take c.args.size (drop i c.args.file.now)) at) all)
