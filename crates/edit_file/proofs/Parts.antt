-- The parts of a file as the parser cuts them: the header, the line behind it, what stands behind its first number, and behind its second.
use mathlib.Core.Bool.{Bool, true, false}
use mathlib.Core.List.{List, ◌∷◌, ◌++◌}
use mathlib.Core.Path.{◌≡◌, sym, ap, ◌∙◌}
use Prim.Native.Nat.{ℕ, ◌-◌}
use native.Mathlib.Omega.{arith}
use lib.ListN.{length, take, drop, length-drop, take-append-drop}
use lib.Seq.{take_all}
use Rattle.words.specs.Order.{same}
use Rattle.words.proofs.Order.{same_true, same_false}
use Rattle.decimal.specs.Decimal.{codes}
use Rattle.edit_file.specs.EditFile.{EditFile}
use Rattle.edit_file.specs.Fields.{Closes}
use Rattle.edit_file.proofs.Only.{front_only}

-- the answer of a comparison
pub differ : {x y : List ℕ} {b : Bool} → b ≡ same x y → b ≡ false → x ≡ y → ⊥
differ {x} {y} e t = same_false x y (sym e ∙ t)

pub equal : {x y : List ℕ} {b : Bool} → b ≡ same x y → b ≡ true → x ≡ y
equal {x} {y} e t = same_true x y (sym e ∙ t)

-- what a slice holds from place i on
abbrev pub tail : ℕ → List ℕ → List ℕ
tail i xs = take (length xs - i) (drop i xs)

tail_drop : (i : ℕ) (xs : List ℕ) → tail i xs ≡ drop i xs
tail_drop i xs = take_all (length xs - i) (drop i xs) (omega (arith, length-drop i xs))

-- the second line
abbrev line : List ℕ → List ℕ
line bytes = tail 9 bytes

module _ {bytes : List ℕ} where
  module _ {from to : ℕ} (f : EditFile bytes from to) where
    pub file_line : line bytes ≡ f.first ++ (44 ∷ (f.second ++ codes "\r\n"))
    file_line = tail_drop 9 bytes ∙ ap (drop 9) f.parts

  module _ {value end : ℕ} (c : Closes (line bytes) 44 value end) where
    pub file_rest : {from to : ℕ} (f : EditFile bytes from to) → tail end (line bytes) ≡ f.second ++ codes "\r\n"
    file_rest f =
        tail_drop end (line bytes)
        ∙ (front_only 44 c.spelled f.first (omega arith) c.numeral.digits f.from_reads.digits (sym c.front ∙ file_line f)).1

    module _ {value' end' : ℕ} (d : Closes (tail end (line bytes)) 13 value' end') where
      pub file_end : {from to : ℕ} → EditFile bytes from to → tail end' (tail end (line bytes)) ≡ codes "\n"
      file_end f =
          tail_drop end' (tail end (line bytes))
          ∙ (front_only 13 d.spelled f.second (omega arith) d.numeral.digits f.to_reads.digits (sym d.front ∙ file_rest f)).1

      pub file_says : take 9 bytes ≡ codes "from,to\r\n" → tail end' (tail end (line bytes)) ≡ codes "\n" → EditFile bytes value value'
      file_says h e =
          let last = sym (tail_drop end' (tail end (line bytes))) ∙ e in
          let behind = sym (tail_drop end (line bytes)) ∙ d.front ∙ ap (λ u. d.spelled ++ (13 ∷ u)) last in
          record {
            first = c.spelled;
            second = d.spelled;
            parts =
                sym (take-append-drop 9 bytes) ∙ ap (λ u. u ++ drop 9 bytes) h
                ∙ ap (λ u. codes "from,to\r\n" ++ u) (sym (tail_drop 9 bytes) ∙ c.front ∙ ap (λ u. c.spelled ++ (44 ∷ u)) behind);
            from_reads = c.numeral;
            to_reads = d.numeral;
          }
