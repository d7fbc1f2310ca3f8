-- Sums that stop at the greatest number.
use Rattle.std.proofs.Common.{◌≡◌, ℕ, ◌+◌, ◌-◌, ◌^◌, ◌<◌, ◌≤◌, min, arith}

-- one more part
one_more : (m x y a b s : ℕ) → x ≡ min a m → y ≡ min b m → s ≡ min (x + y) m → s ≡ min (a + b) m
one_more m x y a b s e f g = omega arith

-- the sizes of a head's parts, summed with a stop at each step, are their whole sum with one stop
pub parts : (m a b c d first host fields added s1 s2 s3 s : ℕ) → 2 ≤ m → first ≡ min a m → host ≡ min b m → fields ≡ min c m
    → added ≡ min d m
    → s1 ≡ min (first + host) m → s2 ≡ min (s1 + fields) m → s3 ≡ min (s2 + added) m → s ≡ min (s3 + 2) m → s ≡ min (a + b + c + d + 2) m
parts m a b c d first host fields added s1 s2 s3 s l e f g h i j k n =
    let one = one_more m first host a b s1 e f i in
    let two = one_more m s1 fields (a + b) c s2 one g j in
    let three = one_more m s2 added (a + b + c) d s3 two h k in
    let small : 2 ≡ min 2 m = omega arith in
    one_more m s3 2 (a + b + c + d) 2 s three small n

-- a size that memory was found for is no sum that stopped: there is room for all parts
pub is_exact : (a b c d size left : ℕ) → size ≡ min (a + b + c + d + 2) (2 ^ 64 - 1) → left ≡ size → size < 2 ^ 63
    → left ≡ a + (b + (c + (d + 2)))
is_exact a b c d size left e f l = omega arith

-- after a part there is room for the others
pub behind : (part others left new : ℕ) → left ≡ part + others → new + part ≡ left → new ≡ others
behind part others left new e f = omega arith

-- and before it for the part
pub fits : (part others left : ℕ) → left ≡ part + others → part ≤ left
fits part others left e = omega arith
