-- Rounds add up their tests.
use Rattle.std.proofs.Common.{◌≡◌, ℕ, ◌+◌, ◌*◌, ◌≤◌, arith}
use Rattle.std.proofs.Math.Nat.{add-mul, mul-le-mul_right}

times_suc : (n b : ℕ) → (n + 1) * b ≡ n * b + b
times_suc n b = let e = add-mul n 1 b in omega (arith, e)

pub round_ticks : (first before after rounds part all : ℕ) → before ≤ first + rounds * (2 * all) → after ≤ before + 2 * part → part ≤ all → after ≤ first + (rounds + 1) * (2 * all)
round_ticks first before after rounds part all h k l = let e = times_suc rounds (2 * all) in omega (arith, e, h, k, l)

times_more : (a c b : ℕ) → a ≤ c → a * b ≤ c * b
times_more a c b h = mul-le-mul_right b h

pub times_less : (first after a c b : ℕ) → after ≤ first + a * b → a ≤ c → after ≤ first + c * b
times_less first after a c b h l = let e = times_more a c b l in omega (arith, e, h)
