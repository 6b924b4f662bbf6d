-- Texts as their bytes: equality, order, folding, trailing slashes. Assumes nothing.
use Rattle.std.specs.Prelude.{ℕ, ◌+◌, Bool, true, false, cond, ◌&&◌, ◌||◌, leb, List, [], ◌∷◌, map, ◌==◌, nat_eq, nat_le, nat_lt}
use Rattle.std.specs.List.{list_all, list_any}

-- a text is its bytes
abbrev pub Bytes : Type 0
Bytes = List ℕ

-- as long, and the same at every place
abbrev pub same_list : {A : Type 0} → (A → A → Bool) → List A → List A → Bool
same_list same [] [] = true
same_list same [] (y ∷ ys) = false
same_list same (x ∷ xs) [] = false
same_list same (x ∷ xs) (y ∷ ys) = same x y && same_list same xs ys

-- texts are equal when their bytes are
abbrev pub same_bytes : Bytes → Bytes → Bool
same_bytes = same_list nat_eq

-- strictly before in the order of bytes, a prefix first
abbrev pub before : Bytes → Bytes → Bool
before [] [] = false
before [] (y ∷ ys) = true
before (x ∷ xs) [] = false
before (x ∷ xs) (y ∷ ys) = nat_lt x y || (x == y && before xs ys)

-- some element passes the test
abbrev pub any : {A : Type 0} → (A → Bool) → List A → Bool
any = list_any

-- some two elements are the same
abbrev pub repeats : {A : Type 0} → (A → A → Bool) → List A → Bool
repeats same [] = false
repeats same (x ∷ xs) = any (same x) xs || repeats same xs

-- every element passes the test
abbrev pub all : {A : Type 0} → (A → Bool) → List A → Bool
all = list_all

-- no byte is above 127
abbrev pub ascii : Bytes → Bool
ascii = all (λ b. leb b 127)

-- a byte in lower case: A to Z (65 to 90) gain 32, all others stay
abbrev pub fold : ℕ → ℕ
fold b = cond (nat_le 65 b && nat_le b 90) (b + 32) b

-- a text in lower case
abbrev pub folded : Bytes → Bytes
folded = map fold

-- b before the rest, or nothing where b is a slash (47) and nothing follows
abbrev pub unless_slash : ℕ → Bytes → Bytes
unless_slash b [] = cond (b == 47) [] (b ∷ [])
unless_slash b (c ∷ cs) = b ∷ c ∷ cs

-- without its trailing slashes
abbrev pub trimmed : Bytes → Bytes
trimmed [] = []
trimmed (b ∷ bs) = unless_slash b (trimmed bs)
