-- What the copies that an ask tells say of N(g), after a history (C-13).
use Rattle.std.specs.Prelude.{ℕ}
use Rattle.crumbmap.specs.Layouts.{Layout, Numbering}
use Rattle.crumbmap.specs.Fingerprints.{front_of, key_of}
use Rattle.machine.specs.Images.{in_front}
use Rattle.machine.specs.Copies.{Told}
use Rattle.form.specs.Tails.{body}
use Rattle.history.specs.Histories.{History, blocks, bytes_after}
use Rattle.history.specs.Ledgers.{fingerprint_of, ledger, smaller}

-- an ask for hash k told c copies; `absent` is that its place is none
abbrev pub CopiesTold : Numbering → Layout → History → ℕ → ℕ → Type 0 → Type 0
CopiesTold layouts L h k c absent =
    let f : ℕ = front_of (blocks h) k in
    let N : ℕ → ℕ = ledger layouts L h in
    Told L (in_front L f (body (bytes_after layouts h))) (key_of L k) (smaller L N f (key_of L k)) (N (fingerprint_of L (blocks h) k)) c absent
