-- `digit_of` goes by the two ranges.
use native.Mathlib.Omega.{arith}
use borrow.Author.Tests.{le-leb, lt-leb}
use Rattle.text.specs.Texts.{digit_of}
use Rattle.text.proofs.hex.digit_of.Goals as goal

pub returns-then-byte-lt48 : goal.returns-then-byte-lt48
unfolding digit_of
returns-then-byte-lt48 c = let b = c.args.byte in rw (lt-leb 48 b (omega arith), lt-leb 65 b (omega arith))

pub returns-then-byte-le57 : goal.returns-then-byte-le57
unfolding digit_of
returns-then-byte-le57 c = let b = c.args.byte in rw (le-leb 48 b (omega arith), le-leb b 57 (omega arith))

pub returns-then-byte-lt65 : goal.returns-then-byte-lt65
unfolding digit_of
returns-then-byte-lt65 c = let b = c.args.byte in rw (le-leb 48 b (omega arith), lt-leb b 57 (omega arith), lt-leb 65 b (omega arith))

pub returns-then-byte-le70 : goal.returns-then-byte-le70
unfolding digit_of
returns-then-byte-le70 c =
    let b = c.args.byte in
    rw (le-leb 48 b (omega arith), lt-leb b 57 (omega arith), le-leb 65 b (omega arith), le-leb b 70 (omega arith))

pub returns : goal.returns
unfolding digit_of
returns c =
    let b = c.args.byte in
    rw (le-leb 48 b (omega arith), lt-leb b 57 (omega arith), le-leb 65 b (omega arith), lt-leb b 70 (omega arith))
