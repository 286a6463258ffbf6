-- In each of the three cases of the files, what is left is all that is printed.
use mathlib.Core.List.{List}
use mathlib.Core.Path.{refl}
use Prim.Native.Nat.{ℕ, ◌≤◌, ◌<◌}
use native.Mathlib.Omega.{arith}
use lib.ListN.{length}
use Rattle.edit_file.proofs.Only.{edit_only}
use Rattle.edit_file.specs.EditFile.{EditFile}
use Rattle.edited_answer.specs.Answer.{edit_output}
use Rattle.refusals.specs.Refusals.{max_pattern}
use Rattle.rows.specs.Written.{Puts}
use Rattle.text.proofs.Begins.{puts_begins}
use Rattle.text.specs.Listing.{refusal_text}
use Rattle.edited_output.specs.Output.{Prints}

module _ (s b csv : List ℕ) {d d' : List ℕ} {n : ℕ} where
  pub prints_long : max_pattern < length s → Puts (refusal_text 1) 0 d d' n → Prints s b csv d d' n
  prints_long h p =
      record {
        out = refusal_text 1;
        is = record { long = λ _. refl; malformed = λ k _. absurd (omega arith); edit = λ k _ _ _. absurd (omega arith) };
        begins = puts_begins p;
      }

  pub prints_malformed : length s ≤ max_pattern → ((from to : ℕ) → EditFile csv from to → ⊥) → Puts (refusal_text 2) 0 d d' n → Prints s b csv d d' n
  prints_malformed h m p =
      record {
        out = refusal_text 2;
        is = record { long = λ k. absurd (omega arith); malformed = λ _ _. refl; edit = λ _ from to f. absurd (m from to f) };
        begins = puts_begins p;
      }

  pub prints_edit : length s ≤ max_pattern → {from to : ℕ} → EditFile csv from to → Puts (edit_output s from to b) 0 d d' n → Prints s b csv d d' n
  prints_edit h {from} {to} f p =
      record {
        out = edit_output s from to b;
        is =
            record {
              long = λ k. absurd (omega arith);
              malformed = λ _ m. absurd (m from to f);
              edit = λ _ from' to' g.
                  let q = edit_only f g in
                  rw (q.0, q.1) refl;
            };
        begins = puts_begins p;
      }
