-- A file says at most one pair of numbers: digits end where the byte that closes them stands.
use mathlib.Core.List.{List, [], ◌∷◌, ◌++◌}
use mathlib.Core.Path.{◌≡◌, refl, sym, ap, ◌∙◌}
use Prim.Native.Nat.{ℕ, suc, ◌<◌}
use native.Mathlib.Omega.{arith}
use lib.ListN.{drop}
use Rattle.decimal.specs.Decimal.{read, Digits}
use Rattle.edit_file.specs.EditFile.{Numeral, EditFile}

pub front_only : (close : ℕ) (cs ds : List ℕ) {rest rest' : List ℕ} → close < 48 → Digits cs → Digits ds
    → cs ++ (close ∷ rest) ≡ ds ++ (close ∷ rest') → (cs ≡ ds) × (rest ≡ rest')
front_only close [] [] h d d' e = (refl, cc)
front_only close [] (y ∷ ds) h d d' e =
    let q : close ≡ y = cc in
    absurd (omega (arith, d' 0 (omega arith)))
front_only close (x ∷ cs) [] h d d' e =
    let q : x ≡ close = cc in
    absurd (omega (arith, d 0 (omega arith)))
front_only close (x ∷ cs) (y ∷ ds) {rest} {rest'} h d d' e =
    let t : cs ++ (close ∷ rest) ≡ ds ++ (close ∷ rest') = cc in
    let p = front_only close cs ds h (λ k l. d (suc k) (omega arith)) (λ k l. d' (suc k) (omega arith)) t in
    (cc, p.1)

numeral_only : {cs ds : List ℕ} {m n : ℕ} → Numeral cs m → Numeral ds n → cs ≡ ds → m ≡ n
numeral_only c d e = sym c.reads ∙ ap read e ∙ d.reads

pub edit_only : {bytes : List ℕ} {from to from' to' : ℕ} → EditFile bytes from to → EditFile bytes from' to' → (from ≡ from') × (to ≡ to')
edit_only f g =
    let e = ap (drop 9) (sym f.parts ∙ g.parts) in
    let p = front_only 44 f.first g.first (omega arith) f.from_reads.digits g.from_reads.digits e in
    let q = front_only 13 f.second g.second (omega arith) f.to_reads.digits g.to_reads.digits p.1 in
    (numeral_only f.from_reads g.from_reads p.0, numeral_only f.to_reads g.to_reads q.0)
