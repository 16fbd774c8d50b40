-- `strides_of` divides by K; the rest t is below it, so 8t is at most B.
use mathlib.Core.Path.{ap}
use Prim.Native.Nat.{ℕ, ◌/◌, ◌%◌}
use native.Mathlib.Nat.{mod-lt, div-le_self}
use native.Mathlib.Omega.{arith}
use Rattle.crumbmap.specs.CrumbMap.{stride}
use Rattle.crumbmap.proofs.map.strides_of.Goals as goal

pub returns : goal.returns
unfolding stride
returns c =
    let j = c.args.from.0 in
    let k = c.stride_of-stride in
    record {
      whole = ap (λ (n : ℕ). j / n) k.ensures.0;
      rest = ap (λ (n : ℕ). j % n) k.ensures.0;
      few = div-le_self j k.result;
      short = omega (arith, mod-lt j {m = k.result} (omega arith));
    }
