-- How Duval's scan stands. No public contract cites it.
use Rattle.std.specs.Prelude.{List, ◌≡◌, ℕ, ◌+◌, ◌≤◌, ◌<◌, length, take, drop, get_or}
use Rattle.words.specs.Order.{Lyndon}

-- At place i, up to j: the part s[i..j) has the period p and begins with a Lyndon word of length p.
pub record Scan (s : List ℕ) (i j p : ℕ) : Type 0 where
  pub some : 0 < p
  pub fits : i + p ≤ j
  pub ends : j ≤ length s
  pub word : Lyndon (take p (drop i s))
  pub period : (k : ℕ) → i ≤ k → k + p < j → get_or s (k + p) 0 ≡ get_or s k 0
