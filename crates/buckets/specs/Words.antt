-- A bucket's word: "from bit 0 up, each of the mini-buckets in turn gives a 0 bit for each of its members, then a 1 bit; the rest is 0".
use Rattle.std.specs.Prelude.{ℕ, zero, suc, ◌+◌, ◌*◌, ◌/◌, ◌%◌, ◌^◌, cond, List, [], ◌∷◌, eqb}
use Rattle.std.proofs.Math.Option.{Option, none, some, map}
use Rattle.multiset.specs.Multisets.{copies}

-- the word of the mini-buckets m, m + 1, .., `minis` of them, over members whose mini-buckets are ms
unfoldable pub word_from : ℕ → ℕ → List ℕ → ℕ
word_from zero m ms = 0
word_from (suc minis) m ms = 2 ^ copies m ms * (1 + 2 * word_from minis (suc m) ms)

-- each member's mini-bucket, read off a word of at most `bits` bits; none unless it "has exactly" `minis` "ones"
unfoldable pub minis_from : ℕ → ℕ → ℕ → ℕ → Option (List ℕ)
minis_from bits zero m w = cond (eqb w 0) (some []) none
minis_from zero (suc minis) m w = none
minis_from (suc bits) (suc minis) m w =
    let member : Option (List ℕ) = map (λ (ms : List ℕ). m ∷ ms) (minis_from bits (suc minis) m (w / 2)) in
    let end : Option (List ℕ) = minis_from bits minis (suc m) (w / 2) in
    cond (eqb (w % 2) 0) member end

-- the word with a bit put in at a place, and with the bit there taken out
unfoldable pub opened_at : ℕ → ℕ → ℕ
opened_at pos w = w % 2 ^ pos + w / 2 ^ pos * 2 ^ (pos + 1)

unfoldable pub closed_at : ℕ → ℕ → ℕ
closed_at pos w = w % 2 ^ pos + w / 2 ^ (pos + 1) * 2 ^ pos

-- the list that was found, [] where none was
abbrev pub list_of : Option (List ℕ) → List ℕ
list_of none = []
list_of (some xs) = xs

-- each member's mini-bucket, in a word of at most `bits` bits with `minis` ones
unfoldable pub minis_in : ℕ → ℕ → ℕ → List ℕ
minis_in bits minis w = list_of (minis_from bits minis 0 w)
