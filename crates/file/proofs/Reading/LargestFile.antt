-- "The largest file is 41,001 bytes.": 32 heads, 256 rounds, every row and coin zero. Its bytes are argued, not
-- computed.
use Prim.Native.Nat.{ℕ, ◌+◌, ◌*◌, ◌<◌}
use mathlib.Core.Path.{◌≡◌, refl, sym, ap, ap₂, ◌∙◌}
use mathlib.Core.List.{List, [], ◌∷◌, ◌++◌}
use native.Mathlib.Omega.{arith}
use lib.ListN.{length, get_or, replicate, length-append, length-replicate, get_or-replicate, get_or-append}
use lib.Dec.{lit<, lit≤}
use lib.Seq.{get_or-append-add}
use Rattle.rules.specs.Heard.{member}
use Rattle.rules.specs.Record.{four_bytes_at}
use Rattle.rules.proofs.Counting.Sets.{member_none}
use Rattle.rules.proofs.Counting.Truth.{never}
use Rattle.file.specs.Plan.{Plan}
use Rattle.file.proofs.Reading.Plans.{RuleByRule}

abbrev zeros : ℕ → List ℕ
zeros many = replicate many 0

-- "Count n (2 to 32), then n proposals"; "Count 1, then k"; "Count of rounds, 0 to 256": 39 bytes
abbrev front : List ℕ
front = 0 ∷ 32 ∷ (zeros 32 ++ (0 ∷ 1 ∷ 17 ∷ 1 ∷ 0 ∷ []))

-- then rows of zeros; "Count n times rounds", and coins of zeros
abbrev back : ℕ → List ℕ
back coins = 32 ∷ 0 ∷ zeros coins

abbrev pub padded : ℕ → ℕ → List ℕ
padded rows coins = front ++ (zeros rows ++ back coins)

zeros_length : (many : ℕ) → length (zeros many) ≡ many
zeros_length many = length-replicate {A = ℕ} many 0

abbrev largest : Plan
largest = record { number = 0; place = 0; n = 32; needed = 17; rounds = 256; losses = 39; coins = 32809 }

module _ (rows coins : ℕ) where
  pub padded_length : length (padded rows coins) ≡ 41 + rows + coins
  padded_length =
      omega (
        arith,
        length-append (zeros rows) (back coins),
        zeros_length rows,
        zeros_length coins,
      )

  front_at : (i : ℕ) → i < 39 → get_or (padded rows coins) i 0 ≡ get_or front i 0
  front_at i h = get_or-append front (zeros rows ++ back coins) 0 i h

  row_at : (i : ℕ) → i < rows → get_or (padded rows coins) (39 + i) 0 ≡ 0
  row_at i h =
      get_or-append-add front (zeros rows ++ back coins) i 0
      ∙ get_or-append (zeros rows) (back coins) 0 i (omega (arith, zeros_length rows))
      ∙ get_or-replicate rows i 0 0 h

  after_rows : (i : ℕ) → get_or (padded rows coins) (39 + (rows + i)) 0 ≡ get_or (back coins) i 0
  after_rows i =
      let place : rows + i ≡ length (zeros rows) + i = omega (arith, zeros_length rows) in
      get_or-append-add front (zeros rows ++ back coins) (rows + i) 0
      ∙ ap (λ (k : ℕ). get_or {A = ℕ} (zeros rows ++ back coins) k 0) place
      ∙ get_or-append-add (zeros rows) (back coins) i 0

  proposal_at : (s : ℕ) → s < 32 → get_or (padded rows coins) (2 + s) 0 ≡ 0
  proposal_at s h =
      front_at (2 + s) (omega arith)
      ∙ get_or-append-add (0 ∷ 32 ∷ []) (zeros 32 ++ (0 ∷ 1 ∷ 17 ∷ 1 ∷ 0 ∷ [])) s 0
      ∙ get_or-append (zeros 32) (0 ∷ 1 ∷ 17 ∷ 1 ∷ 0 ∷ []) 0 s (omega (arith, zeros_length 32))
      ∙ get_or-replicate 32 s 0 0 h

  -- a row's four bytes are zero
  no_losses : (i : ℕ) → i * 4 + 3 < rows → four_bytes_at (padded rows coins) (39 + i * 4) ≡ 0
  no_losses i h =
      rw (row_at (i * 4) (omega arith), byte 1 (omega arith), byte 2 (omega arith), byte 3 (omega arith)) refl
    where
      byte : (j : ℕ) → j < 4 → get_or (padded rows coins) (39 + i * 4 + j) 0 ≡ 0
      byte j low =
          let same : 39 + i * 4 + j ≡ 39 + (i * 4 + j) = omega arith in
          ap (λ (p : ℕ). get_or (padded rows coins) p 0) same ∙ row_at (i * 4 + j) (omega arith)

  after_at : (p i : ℕ) → p ≡ 39 + (rows + i) → get_or (padded rows coins) p 0 ≡ get_or (back coins) i 0
  after_at p i e = ap (λ (k : ℕ). get_or (padded rows coins) k 0) e ∙ after_rows i

  pub largest_keeps : rows ≡ 32768 → coins ≡ 8192 → RuleByRule (padded rows coins) 32 largest
  largest_keeps many more =
      record {
        heads_count = refl;
        heads = (lit≤ tt, lit≤ tt);
        proposal = λ s h. omega (arith, proposal_at s h);
        needed_count = refl;
        needed = refl;
        more_than_half = lit< tt;
        at_most = lit≤ tt;
        rounds_count = refl;
        rounds = lit≤ tt;
        losses = refl;
        row = λ i h s m. never (sym (ap (member s) (no_losses i (omega (arith, h, many))) ∙ member_none s) ∙ m);
        coins_count =
            ap₂ (λ (a b : ℕ). a * 256 + b) (after_at 32807 0 (omega (arith, many)))
            (after_at 32808 1 (omega (arith, many)));
        coins = refl;
        coin = coin_at;
        whole = omega (arith, padded_length, many, more);
        enough = lit≤ tt;
        number = refl;
        place = refl;
      }
    where
      coin_at : (i : ℕ) → i < 8192 → get_or (padded rows coins) (32809 + i) 0 < 2
      coin_at i h =
          omega (
            arith,
            after_at (32809 + i) (2 + i) (omega (arith, many)),
            get_or-append-add (32 ∷ 0 ∷ []) (zeros coins) i 0,
            get_or-replicate {A = ℕ} coins i 0 0 (omega (arith, h, more)),
          )
