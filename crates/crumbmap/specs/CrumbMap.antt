-- The map (algorithm 1): a front bucket's two backyard buckets and the crumbs kept there, and the way back.
-- A choice is a Bool: true for b0 (document 01's choice 0, First), false for b1 (choice 1, Second).
use Rattle.std.specs.Prelude.{ℕ, ◌+◌, ◌*◌, ◌/◌, ◌%◌, ◌-◌, Bool, true, false, cond, not, ◌&&◌, ltb, eqb}
use Rattle.std.proofs.Math.Option.{Option, none, some}

-- "K = floor(B / 8) + 1"
unfoldable pub stride : ℕ → ℕ
stride B = B / 8 + 1

-- "b0 = floor(f / 8)"
unfoldable pub first_bucket : ℕ → ℕ
first_bucket f = f / 8

-- "choice 0 with d0", d0 = f mod 8
unfoldable pub first_crumb : ℕ → ℕ
first_crumb f = f % 8

-- "b1 = floor(b0 / 8) + d0 × K"
unfoldable pub second_bucket : ℕ → ℕ → ℕ
second_bucket B f = first_bucket f / 8 + first_crumb f * stride B

-- "choice 1 with d1", d1 = b0 mod 8
unfoldable pub second_crumb : ℕ → ℕ
second_crumb f = 8 + first_bucket f % 8

-- the backyard bucket and the crumb, "8 × choice + digit", of a choice
abbrev pub bucket_of : Bool → ℕ → ℕ → ℕ
bucket_of true B f = first_bucket f
bucket_of false B f = second_bucket B f

abbrev pub crumb_of : Bool → ℕ → ℕ
crumb_of true f = first_crumb f
crumb_of false f = second_crumb f

-- "front buckets whose two backyards coincide" (C-17): f has "b0 = b1"
unfoldable pub coincide : ℕ → ℕ → Bool
coincide B f = eqb (first_bucket f) (second_bucket B f)

-- the choices that a member of f may carry: "such a member now always carries choice 1"
abbrev pub allowed : Bool → ℕ → ℕ → Bool
allowed true B f = not (coincide B f)
allowed false B f = true

-- "Back from bucket j: choice 0, digit d gives f = 8j + d, valid if j < B"; "a choice 0 crumb whose front bucket has b0 = b1 is unsound" (C-17)
unfoldable pub first_home : ℕ → ℕ → ℕ → Option ℕ
first_home B j d = cond (ltb j B && not (coincide B (8 * j + d))) (some (8 * j + d)) none

-- "Choice 1, digit d: e = floor(j / K), t = j mod K, f = 64t + 8d + e, valid if e < 8 and 8t + d < B"
unfoldable pub second_home : ℕ → ℕ → ℕ → Option ℕ
second_home B j d =
    let e : ℕ = j / stride B in
    let t : ℕ = j % stride B in
    cond (ltb e 8 && ltb (8 * t + d) B) (some (64 * t + 8 * d + e)) none

-- the front bucket of crumb c in backyard bucket j, none where c is not valid there
unfoldable pub home : ℕ → ℕ → ℕ → Option ℕ
home B j c = cond (ltb c 8) (first_home B j c) (second_home B j (c - 8))
