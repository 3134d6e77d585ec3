-- Lists and filters, for any type.
use Rattle.std.proofs.Common.{◌≡◌, ◌≢◌, ℕ, zero, suc, ◌+◌, ◌<◌, Bool, true, false, List, [], ◌∷◌, ◌++◌, length, map, filter, find, get_or, Some, if◌then◌else◌, refl, ap, ◌∙◌, arith}
use Rattle.std.specs.List.{AllByRecursion}
use Rattle.std.proofs.lemmas.Option.{same_Some}
use Rattle.nbd_base.specs.Words.{change_at, change_each}
use Rattle.lone_export.proofs.Cases.{if_one, if_told, if_both}

-- ---- one element changed

pub get_or-change_at : {A : Type 0} (f : A → A) (k : ℕ) (xs : List A) (d : A) → k < length xs → get_or (change_at f k xs) k d ≡ f (get_or xs k d)
get_or-change_at f k [] d lt = absurd (omega arith)
get_or-change_at f zero (x ∷ xs) d lt = refl
get_or-change_at f (suc k) (x ∷ xs) d lt = get_or-change_at f k xs d (omega arith)

pub get_or-change_at_other : {A : Type 0} (f : A → A) (k i : ℕ) (xs : List A) (d : A) → i ≢ k → get_or (change_at f k xs) i d ≡ get_or xs i d
get_or-change_at_other f k i [] d differ = refl
get_or-change_at_other f zero zero (x ∷ xs) d differ = absurd (differ refl)
get_or-change_at_other f zero (suc i) (x ∷ xs) d differ = refl
get_or-change_at_other f (suc k) zero (x ∷ xs) d differ = refl
get_or-change_at_other f (suc k) (suc i) (x ∷ xs) d differ = get_or-change_at_other f k i xs d (λ e. differ (ap suc e))

pub length-change_each : {A : Type 0} (f : ℕ → A → A) (k : ℕ) (xs : List A) → length (change_each f k xs) ≡ length xs
length-change_each f k [] = refl
length-change_each f k (x ∷ xs) = ap suc (length-change_each f (suc k) xs)

pub get_or-change_each : {A : Type 0} (f : ℕ → A → A) (k i : ℕ) (xs : List A) (d : A) → i < length xs → get_or (change_each f k xs) i d ≡ f (k + i) (get_or xs i d)
get_or-change_each f k i [] d lt = absurd (omega arith)
get_or-change_each f k zero (x ∷ xs) d lt = ap (λ n. f n x) (omega arith)
get_or-change_each f k (suc i) (x ∷ xs) d lt = get_or-change_each f (suc k) i xs d (omega arith) ∙ ap (λ n. f n (get_or xs i d)) (omega arith)

-- what h doesn't see of a change
pub unseen-change_at : {A B : Type 0} (h : A → B) (f : A → A) → ((x : A) → h (f x) ≡ h x) → (k i : ℕ) (xs : List A) (d : A) → h (get_or (change_at f k xs) i d) ≡ h (get_or xs i d)
unseen-change_at h f same k i [] d = refl
unseen-change_at h f same zero zero (x ∷ xs) d = same x
unseen-change_at h f same zero (suc i) (x ∷ xs) d = refl
unseen-change_at h f same (suc k) zero (x ∷ xs) d = refl
unseen-change_at h f same (suc k) (suc i) (x ∷ xs) d = unseen-change_at h f same k i xs d

-- the same, where it isn't seen at the element that is changed
pub unseen_there : {A B : Type 0} (h : A → B) (f : A → A) (k i : ℕ) (xs : List A) (d : A) → h (f (get_or xs k d)) ≡ h (get_or xs k d) → h (get_or (change_at f k xs) i d) ≡ h (get_or xs i d)
unseen_there h f k i [] d same = refl
unseen_there h f zero zero (x ∷ xs) d same = same
unseen_there h f zero (suc i) (x ∷ xs) d same = refl
unseen_there h f (suc k) zero (x ∷ xs) d same = refl
unseen_there h f (suc k) (suc i) (x ∷ xs) d same = unseen_there h f k i xs d same

pub unseen-change_each : {A B : Type 0} (h : A → B) (f : ℕ → A → A) → ((k : ℕ) (x : A) → h (f k x) ≡ h x) → (k i : ℕ) (xs : List A) (d : A) → h (get_or (change_each f k xs) i d) ≡ h (get_or xs i d)
unseen-change_each h f same k i [] d = refl
unseen-change_each h f same k zero (x ∷ xs) d = same k x
unseen-change_each h f same k (suc i) (x ∷ xs) d = unseen-change_each h f same (suc k) i xs d

-- ---- filters

-- what passes p passes q
pub filter_of_filter : {A : Type 0} (p q : A → Bool) → ((x : A) → p x ≡ true → q x ≡ true) → (xs : List A) → filter p (filter q xs) ≡ filter p xs
filter_of_filter p q h [] = refl
filter_of_filter p q h (x ∷ xs) = go (filter_of_filter p q h xs) (p x) (q x) refl refl
  where
    go : filter p (filter q xs) ≡ filter p xs → (b c : Bool) → p x ≡ b → q x ≡ c → filter p (if q x then (x ∷ filter q xs) else filter q xs) ≡ (if p x then (x ∷ filter p xs) else filter p xs)
    go ih b true e d = rw d (ap (λ ys. if p x then (x ∷ ys) else ys) ih)
    go ih false false e d = rw (d, e) ih
    go ih true false e d = absurd (grind (arith, h x e, d))

-- nothing that passes p passes q
pub filter_none : {A : Type 0} (p q : A → Bool) → ((x : A) → p x ≡ true → q x ≡ false) → (xs : List A) → filter p (filter q xs) ≡ []
filter_none p q h [] = refl
filter_none p q h (x ∷ xs) = go (filter_none p q h xs) (p x) (q x) refl refl
  where
    go : filter p (filter q xs) ≡ [] → (b c : Bool) → p x ≡ b → q x ≡ c → filter p (if q x then (x ∷ filter q xs) else filter q xs) ≡ []
    go ih b false e d = rw d ih
    go ih false true e d = rw (d, e) ih
    go ih true true e d = absurd (grind (arith, h x e, d))

pub filter_swap : {A : Type 0} (p q : A → Bool) (xs : List A) → filter p (filter q xs) ≡ filter q (filter p xs)
filter_swap p q [] = refl
filter_swap p q (x ∷ xs) = go (filter_swap p q xs) (p x) (q x) refl refl
  where
    go : filter p (filter q xs) ≡ filter q (filter p xs) → (b c : Bool) → p x ≡ b → q x ≡ c → filter p (if q x then (x ∷ filter q xs) else filter q xs) ≡ filter q (if p x then (x ∷ filter p xs) else filter p xs)
    go ih true true e d = rw (d, e, d) (ap (λ ys. x ∷ ys) ih)
    go ih true false e d = rw (d, e, d) ih
    go ih false true e d = rw (d, e) ih
    go ih false false e d = rw (d, e) ih

-- a map that the test doesn't see
pub filter-map : {A : Type 0} (p : A → Bool) (f : A → A) → ((x : A) → p (f x) ≡ p x) → (xs : List A) → filter p (map f xs) ≡ map f (filter p xs)
filter-map p f h [] = refl
filter-map p f h (x ∷ xs) = rw (h x) (if_both (λ a b. a ≡ map f b) (p x) (p x) refl (ap (λ ys. f x ∷ ys) (filter-map p f h xs)) (filter-map p f h xs))

pub map-map_same : {A B : Type 0} (g : A → B) (f : A → A) → ((x : A) → g (f x) ≡ g x) → (xs : List A) → map g (map f xs) ≡ map g xs
map-map_same g f h [] = refl
map-map_same g f h (x ∷ xs) = rw (h x) (ap (λ ys. g x ∷ ys) (map-map_same g f h xs))

-- a test of what is mapped
pub filter-of_map : {A B : Type 0} (p : B → Bool) (g : A → B) (xs : List A) → filter p (map g xs) ≡ map g (filter (λ x. p (g x)) xs)
filter-of_map p g [] = refl
filter-of_map p g (x ∷ xs) = if_both (λ a b. a ≡ map g b) (p (g x)) (p (g x)) refl (ap (λ ys. g x ∷ ys) (filter-of_map p g xs)) (filter-of_map p g xs)

pub filter_same : {A : Type 0} (p q : A → Bool) → ((x : A) → p x ≡ q x) → (xs : List A) → filter p xs ≡ filter q xs
filter_same p q h [] = refl
filter_same p q h (x ∷ xs) = if_both (λ a b. a ≡ b) (p x) (q x) (h x) (ap (λ ys. x ∷ ys) (filter_same p q h xs)) (filter_same p q h xs)

-- two tests that agree where p passes
pub filter_same_on : {A : Type 0} (p q r : A → Bool) → ((x : A) → p x ≡ true → q x ≡ r x) → (xs : List A) → filter q (filter p xs) ≡ filter r (filter p xs)
filter_same_on p q r h [] = refl
filter_same_on p q r h (x ∷ xs) = if_told (λ ys. filter q ys ≡ filter r ys) (p x) (λ e. if_both (λ a b. a ≡ b) (q x) (r x) (h x e) (ap (λ ys. x ∷ ys) (filter_same_on p q r h xs)) (filter_same_on p q r h xs)) (λ e. filter_same_on p q r h xs)

pub find_passes : {A : Type 0} (p : A → Bool) (xs : List A) (x : A) → find p xs ≡ Some x → p x ≡ true
find_passes p [] x e = absurd (grind (arith, e))
find_passes p (y ∷ xs) x e = go (find_passes p xs x) (p y) refl e
  where
    go : (find p xs ≡ Some x → p x ≡ true) → (b : Bool) → p y ≡ b → (if b then Some y else find p xs) ≡ Some x → p x ≡ true
    go ih true d h = rw (← same_Some y x h) d
    go ih false d h = ih h

-- ---- what holds of each element

pub all_here : {A : Type 0} (P Q : A → Type 0) → ((x : A) → P x → Q x) → (xs : List A) → AllByRecursion P xs → AllByRecursion Q xs
all_here P Q h [] a = tt
all_here P Q h (x ∷ xs) a = (h x a.0, all_here P Q h xs a.1)

pub all-append : {A : Type 0} (P : A → Type 0) (xs ys : List A) → AllByRecursion P xs → AllByRecursion P ys → AllByRecursion P (xs ++ ys)
all-append P [] ys a b = b
all-append P (x ∷ xs) ys a b = (a.0, all-append P xs ys a.1 b)

pub all-filter : {A : Type 0} (P : A → Type 0) (p : A → Bool) (xs : List A) → AllByRecursion P xs → AllByRecursion P (filter p xs)
all-filter P p [] a = tt
all-filter P p (x ∷ xs) a = if_one (AllByRecursion P) (p x) (a.0, all-filter P p xs a.1) (all-filter P p xs a.1)

pub all-map : {A : Type 0} (P Q : A → Type 0) (f : A → A) → ((x : A) → P x → Q (f x)) → (xs : List A) → AllByRecursion P xs → AllByRecursion Q (map f xs)
all-map P Q f h [] a = tt
all-map P Q f h (x ∷ xs) a = (h x a.0, all-map P Q f h xs a.1)

pub all_pass : {A : Type 0} (p : A → Bool) (xs : List A) → AllByRecursion (λ x. p x ≡ true) (filter p xs)
all_pass p [] = tt
all_pass p (x ∷ xs) = if_told (AllByRecursion (λ y. p y ≡ true)) (p x) (λ e. (e, all_pass p xs)) (λ e. all_pass p xs)
