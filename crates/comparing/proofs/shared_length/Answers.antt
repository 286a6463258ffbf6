-- `comparing::shared_length` meets its contract: the bounds of the two parts give their lengths back.
use mathlib.Core.Path.{◌≡◌}
use Prim.Native.Nat.{◌+◌, ◌-◌}
use native.Mathlib.Omega.{arith}
use Rattle.comparing.proofs.Decided.{told_shared}
use Rattle.comparing.proofs.shared_length.Goals as goal

pub returns : goal.returns
returns c =
    let a = c.args in
    let p : a.i + a.m - a.i ≡ a.m = omega arith in
    let q : a.j + a.n - a.j ≡ a.n = omega arith in
    rw (p, q) at (told_shared c.shared_bytes.ensures)
