-- Matrices of truth values, and paths in the graphs whose edges are their set bits.
use Rattle.std.specs.Prelude.{◌≡◌, ◌==◌, ℕ, zero, suc, ◌+◌, ◌*◌, ◌/◌, ◌<◌, ◌≤◌, Bool, true, false, not, ◌&&◌, ◌||◌, if◌then◌else◌, List, [], ◌∷◌, ◌++◌, codes, map, replicate, slice_index_or, slice_range, refl}
use Rattle.std.specs.List.{range_with_len}
use Rattle.std.specs.Cmp.{IsEquivalence, and_equiv, nat_eq_equiv, on_equiv}
use Rattle.bit_addressing.specs.Text.{digit_of}
use Rattle.bit_slice.specs.Comparisons.{bits_equal, bits_equiv}
use Rattle.std.proofs.Common.{lit<, lit≤}
use Rattle.std.specs.Coded.{Coded, code_by, coded×, coded_list, coded_ℕ, coded_bool}
use Rattle.bit_addressing.specs.declared.length.TheConstants.{MAX_BITS}

-- how many rows and columns a matrix has, and its bits, row after row
pub record Grid : Type 0 where
  pub rows : ℕ
  pub columns : ℕ
  pub bits : List Bool

-- such a value is stored as its parts
abbrev pub grid_code : Coded Grid
grid_code = code_by (ℕ × (ℕ × List Bool)) (coded× coded_ℕ (coded× coded_ℕ (coded_list coded_bool))) (λ m. (m.rows, (m.columns, m.bits))) (λ p. record { rows = p.0; columns = p.1.0; bits = p.1.1 }) (λ _. refl)

-- how many bits the words of a row have, by its columns
abbrev pub padded : ℕ → ℕ
padded columns = 64 * ((columns + 63) / 64)

-- the first `columns` bits of each row, of rows that begin `stride` bits apart
unfoldable pub unpadded : ℕ → ℕ → ℕ → List Bool → List Bool
unpadded zero columns stride bits = []
unpadded (suc rows) columns stride bits = unpadded rows columns stride bits ++ slice_range bits (rows * stride) (rows * stride + columns)

-- what always holds of the `size` bits of a matrix with their padding, of which the first is bit `start` of its word
pub record IsGrid (rows columns stride start size : ℕ) : Type 0 where
  pub count : size ≡ rows * stride
  pub few : size ≤ MAX_BITS
  pub wide : 0 < rows → stride ≡ padded columns
  pub aligned : start ≡ 0

-- the matrix whose bits are all false
abbrev pub zeros : ℕ → ℕ → Grid
zeros rows columns = record { rows = rows; columns = columns; bits = replicate (rows * columns) false }

-- the bit in row i and column j
abbrev pub item : Grid → ℕ → ℕ → Bool
item m i j = slice_index_or m.bits (i * m.columns + j) false

-- the bit at an index of a list, and false from its end on
abbrev pub bit_of : List Bool → ℕ → Bool
bit_of xs i = slice_index_or xs i false

-- the bits of row i
abbrev pub row_bits : Grid → ℕ → List Bool
row_bits m i = slice_range m.bits (i * m.columns) (i * m.columns + m.columns)

-- the bits of each row
abbrev pub rows_bits : Grid → List (List Bool)
rows_bits m = map (row_bits m) (range_with_len 0 m.rows)

-- the bits of column j
abbrev pub column_bits : Grid → ℕ → List Bool
column_bits m j = map (λ i. item m i j) (range_with_len 0 m.rows)

-- two matrices have as many rows, and as many columns
abbrev pub AreAlike : Grid → Grid → Type 0
AreAlike m n = (m.rows ≡ n.rows) × (m.columns ≡ n.columns)

-- the matrix has a row i and a column j, and their bit is set; in a square matrix: an edge leads from i to j
abbrev pub IsSet : Grid → ℕ → ℕ → Type 0
IsSet m i j = (i < m.rows) × (j < m.columns) × (item m i j ≡ true)

-- edges lead from i to the first of these nodes, from each of them to the next, and from the last to j
abbrev pub IsWalk : (ℕ → ℕ → Type 0) → ℕ → List ℕ → ℕ → Type 0
IsWalk edge i [] j = edge i j
IsWalk edge i (k ∷ ks) j = edge i k × IsWalk edge k ks j

-- a path of at least one edge leads from i to j
abbrev pub IsPath : (ℕ → ℕ → Type 0) → ℕ → ℕ → Type 0
IsPath edge i j = (between : List ℕ) × IsWalk edge i between j

-- each of these nodes is at least `low` and below `high`
abbrev pub AreWithin : ℕ → ℕ → List ℕ → Type 0
AreWithin low high [] = Unit {0}
AreWithin low high (x ∷ xs) = (low ≤ x) × (x < high) × AreWithin low high xs

-- a path leads from i to j whose inner nodes are all at least `low` and below `high`
abbrev pub IsPathOver : (ℕ → ℕ → Type 0) → ℕ → ℕ → ℕ → ℕ → Type 0
IsPathOver edge low high i j = (between : List ℕ) × (AreWithin low high between × IsWalk edge i between j)

-- two edges lead from i to j, over a node that is at least `low` and below `high`
abbrev pub LeadsOver : (ℕ → ℕ → Type 0) → ℕ → ℕ → ℕ → ℕ → Type 0
LeadsOver edge low high i j = (k : ℕ) × ((low ≤ k) × (k < high) × edge i k × edge k j)

-- an edge from a node to another, both at least `low` and below `high`, implies an edge from the first to each node to which an edge leads from the second
pub record IsClosed (edge : ℕ → ℕ → Type 0) (low high : ℕ) : Type 0 where
  pub leads : (a b j : ℕ) → low ≤ a → a < high → low ≤ b → b < high → edge a b → edge b j → edge a j

-- one of the first n values of a test is true
abbrev pub any_below : (ℕ → Bool) → ℕ → Bool
any_below f zero = false
any_below f (suc n) = any_below f n || f n

-- the sum of two bits mod 2: one of them is set, and not both
abbrev pub plus_mod_2 : Bool → Bool → Bool
plus_mod_2 x y = if x then not y else y

-- the sum mod 2 of the first n values of a function
abbrev pub sum_mod_2 : (ℕ → Bool) → ℕ → Bool
sum_mod_2 f zero = false
sum_mod_2 f (suc n) = plus_mod_2 (sum_mod_2 f n) (f n)

-- the bit of a product over or and and: a middle index has a bit in row i on the left, and in column j on the right
abbrev pub product : Grid → Grid → ℕ → ℕ → Bool
product a b i j = any_below (λ k. item a i k && item b k j) a.columns

-- the bit of a product mod 2: an odd number of middle indices has both bits
abbrev pub product_mod_2 : Grid → Grid → ℕ → ℕ → Bool
product_mod_2 a b i j = sum_mod_2 (λ k. item a i k && item b k j) a.columns

-- the product mod 2 of two matrices is the identity
abbrev pub AreInverse : Grid → Grid → Type 0
AreInverse a b = (i j : ℕ) → i < a.rows → j < b.columns → product_mod_2 a b i j ≡ (i == j)

-- b is the inverse of a mod 2: of its size, and both products are the identity
pub record IsInverse (a b : Grid) : Type 0 where
  pub alike : AreAlike b a
  pub left : AreInverse b a
  pub right : AreInverse a b

-- whether two matrices are of one size and have the same bits
abbrev pub grid_equal : Grid → Grid → Bool
grid_equal m n = (m.rows == n.rows) && ((m.columns == n.columns) && bits_equal m.bits n.bits)

pub grid_equiv : IsEquivalence grid_equal
grid_equiv = and_equiv (on_equiv (λ m. m.rows) nat_eq_equiv) (and_equiv (on_equiv (λ m. m.columns) nat_eq_equiv) (on_equiv (λ m. m.bits) bits_equiv))

-- the digits of row i, and the end of a line
abbrev pub row_text : Grid → ℕ → List ℕ
row_text m i = map digit_of (row_bits m i) ++ 10 ∷ []

-- the lines of the first n rows
abbrev pub rows_text : Grid → ℕ → List ℕ
rows_text m zero = []
rows_text m (suc n) = rows_text m n ++ row_text m n

-- a line for each row
abbrev pub grid_text : Grid → List ℕ
grid_text m = rows_text m m.rows

-- of three nodes: an edge from 0 to 1, and one from 1 to 2
abbrev line : Grid
line = record { rows = 3; columns = 3; bits = false ∷ true ∷ false ∷ false ∷ false ∷ true ∷ false ∷ false ∷ false ∷ [] }

first_edge : IsSet line 0 1
first_edge = (lit< tt, lit< tt, refl)

second_edge : IsSet line 1 2
second_edge = (lit< tt, lit< tt, refl)

second_column : column_bits line 1 ≡ true ∷ false ∷ false ∷ []
second_column = refl

rows_of_line : rows_bits line ≡ (false ∷ true ∷ false ∷ []) ∷ (false ∷ false ∷ true ∷ []) ∷ (false ∷ false ∷ false ∷ []) ∷ []
rows_of_line = refl

-- the edges go one way, and none goes from 0 to 2
no_edge_back : item line 1 0 ≡ false
no_edge_back = refl

no_edge_along : item line 0 2 ≡ false
no_edge_along = refl

-- but a path over 1 does
path_along : IsPath (IsSet line) 0 2
path_along = (1 ∷ [], (first_edge, second_edge))

path_over_the_second : IsPathOver (IsSet line) 1 2 0 2
path_over_the_second = (1 ∷ [], ((lit≤ tt, lit< tt, tt), (first_edge, second_edge)))

two_edges_over_the_second : LeadsOver (IsSet line) 1 2 0 2
two_edges_over_the_second = (1, (lit≤ tt, lit< tt, first_edge, second_edge))

-- its paths of two edges
two_edges : product line line 0 2 ≡ true
two_edges = refl

one_edge_alone : product line line 0 1 ≡ false
one_edge_alone = refl

-- two rows of which the first is the sum of both
sheared : Grid
sheared = record { rows = 2; columns = 2; bits = true ∷ true ∷ false ∷ true ∷ [] }

-- added twice it is gone: this matrix is its own inverse
twice_gone : product_mod_2 sheared sheared 0 1 ≡ false
unfolding sheared
twice_gone = refl

diagonal : product_mod_2 sheared sheared 0 0 ≡ true
unfolding sheared
diagonal = refl

two_lines : grid_text sheared ≡ codes "11\n01\n"
unfolding sheared
two_lines = refl

-- rows of three columns take a word each, and rows of 65 two
three_padded : padded 3 ≡ 64
three_padded = refl

none_padded : padded 0 ≡ 0
none_padded = refl

one_word_padded : padded 64 ≡ 64
one_word_padded = refl

one_more_padded : padded 65 ≡ 128
one_more_padded = refl

-- two rows of two bits, three bits apart
two_unpadded : unpadded 2 2 3 (true ∷ false ∷ true ∷ false ∷ true ∷ true ∷ []) ≡ true ∷ false ∷ false ∷ true ∷ []
unfolding unpadded
two_unpadded = refl
