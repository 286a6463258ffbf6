-- The listing of the worked example and others, computed from the definitions.
use mathlib.Core.List.{List}
use mathlib.Core.Path.{◌≡◌, refl}
use Prim.Native.Nat.{ℕ, ◌-◌}
use Rattle.hex_digits.specs.Hex.{pair_of}
use Rattle.words.specs.Bounded.{table}
use Rattle.words.specs.Order.{shared}
use Rattle.words.specs.Factors.{factors}
use Rattle.words.specs.Tables.{groups}
use Rattle.words.specs.Edit.{edited}
use Rattle.decimal.specs.Decimal.{codes, digit_count, decimal}
use Rattle.text.specs.Listing.{header, line, listing_text, listing_by, edited_text, refusal_text}

-- the worked example
pub example_listing : listing_text (codes "acbabcabcabac")
    ≡ codes "start,length,power,word,shared\r\n0,3,1,616362,1\r\n3,3,2,616263,2\r\n9,4,1,61626163,0\r\n"
unfolding listing_text groups factors header line shared decimal digit_count pair_of
example_listing = refl

-- the same under the reverse order: the words are spelled of its bytes
abbrev reverse : List ℕ
reverse = table (λ b. 255 - b) 256

pub example_reverse : listing_by reverse (codes "acbabcabcabac")
    ≡ codes "start,length,power,word,shared\r\n0,1,1,61,0\r\n1,11,1,6362616263616263616261,1\r\n12,1,1,63,0\r\n"
unfolding listing_by groups factors header line shared decimal digit_count pair_of
example_reverse = refl

pub empty_listing : listing_text (codes "") ≡ codes "start,length,power,word,shared\r\n"
unfolding listing_text groups factors header
empty_listing = refl

-- P12: equal words across both seams are one line
pub example_edited : edited_text (codes "aa") 1 1 (codes "a") ≡ codes "start,length,power,word,shared\r\n0,1,3,61,0\r\n"
unfolding edited listing_text groups factors header line shared decimal digit_count pair_of
example_edited = refl

-- P6
pub example_split : edited_text (codes "acbabcabcabac") 11 11 (codes "a")
    ≡ codes "start,length,power,word,shared\r\n0,3,1,616362,1\r\n3,3,2,616263,2\r\n9,2,1,6162,1\r\n11,3,1,616163,0\r\n"
unfolding edited listing_text groups factors header line shared decimal digit_count pair_of
example_split = refl

pub example_refusal : refusal_text 1 ≡ codes "refused,1\r\n"
unfolding refusal_text decimal digit_count
example_refusal = refl
