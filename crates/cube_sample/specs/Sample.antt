-- The files of the generated sample.
use Rattle.std.specs.Prelude.{ℕ, zero, suc, ◌+◌, ◌-◌, ◌*◌, ◌%◌, min, List, [], ◌∷◌, ◌++◌, codes, decimal}

-- the generator's numbers: the first is the sample's size, and each further one is made of the one before
abbrev pub following : ℕ → ℕ
following number = number * 48271 % 2147483647

unfoldable pub drawn : ℕ → ℕ → ℕ
drawn size zero = size
drawn size (suc count) = following (drawn size count)

-- each record uses four of them, behind the size: record i, from 0, has this product, this month, so many units and
-- this price
abbrev pub most_products : ℕ
most_products = 1000

abbrev pub months : ℕ
months = 12

abbrev pub most_units : ℕ
most_units = 100

abbrev pub most_price : ℕ
most_price = 50

abbrev pub products_of : ℕ → ℕ
products_of size = min size most_products

abbrev pub product_of : ℕ → ℕ → ℕ
product_of size i = 1 + drawn size (4 * i + 1) % products_of size

abbrev pub month_of : ℕ → ℕ → ℕ
month_of size i = 1 + drawn size (4 * i + 2) % months

abbrev pub units_of : ℕ → ℕ → ℕ
units_of size i = 1 + drawn size (4 * i + 3) % most_units

abbrev pub price_of : ℕ → ℕ → ℕ
price_of size i = 1 + drawn size (4 * i + 4) % most_price

-- the texts of 0, 1 and so on, so many of them, one after another
unfoldable pub repeated : (ℕ → List ℕ) → ℕ → List ℕ
repeated text zero = []
repeated text (suc count) = repeated text count ++ text count

-- the records' lines
abbrev pub record_line : ℕ → ℕ → List ℕ → ℕ → List ℕ
record_line product month measure amount =
    codes "P" ++ decimal product ++ codes ",M" ++ decimal month ++ codes "," ++ measure ++ codes "," ++ decimal amount
    ++ codes "\n"

abbrev pub units_line : ℕ → ℕ → List ℕ
units_line size i = record_line (product_of size i) (month_of size i) (codes "Units") (units_of size i)

abbrev pub price_line : ℕ → ℕ → List ℕ
price_line size i = record_line (product_of size i) (month_of size i) (codes "Price") (price_of size i)

-- a dimension of so many leaves, which are a letter and a number from 1, under one total
abbrev pub leaf_line : List ℕ → ℕ → List ℕ
leaf_line letter number = codes "N '" ++ letter ++ decimal number ++ codes "';\n"

abbrev pub further_part : List ℕ → ℕ → List ℕ
further_part letter number = codes ", '" ++ letter ++ decimal number ++ codes "'"

abbrev pub dimension_text : List ℕ → List ℕ → List ℕ → ℕ → List ℕ
dimension_text name letter total leaves =
    codes "DIM '" ++ name ++ codes "';\n" ++ repeated (λ i. leaf_line letter (i + 1)) leaves
    ++ codes "C '" ++ total ++ codes "': '" ++ letter ++ codes "1'"
    ++ repeated (λ i. further_part letter (i + 2)) (leaves - 1) ++ codes ";\nEND;\n"

abbrev pub model_text : ℕ → List ℕ
model_text size =
    codes "MODEL 1;\n"
    ++ dimension_text (codes "Product") (codes "P") (codes "Total") (products_of size)
    ++ dimension_text (codes "Month") (codes "M") (codes "Year") months
    ++ codes "DIM 'Measure';\nN 'Units';\nN 'Price';\nN 'Sales';\nEND;\n"
    ++ codes "CUBE 'Shop' ('Product', 'Month', 'Measure');\nRULES 'shop.rux';\nORDER 'Measure' ('Sales' 1);\nEND;\n"
    ++ codes "SCRIPT 'import' 'import.ti';\n"

abbrev pub rules_text : List ℕ
rules_text = codes "SKIPCHECK;\n['Sales'] = N: ['Units'] * ['Price'];\nFEEDERS;\n['Units'] => ['Sales'];\n"

abbrev pub script_text : List ℕ
script_text = codes "Data: CellPutN(V4, 'Shop', V1, V2, V3);\n"

abbrev pub first_user : List ℕ
first_user = codes "LOAD 'import' FROM 'one.csv';\nGET 'Shop' ('Total', 'Year', 'Units');\n"

abbrev pub second_user : List ℕ
second_user = codes "LOAD 'import' FROM 'two.csv';\nGET 'Shop' ('Total', 'Year', 'Sales');\n"

-- each file's name and bytes
abbrev pub files_of : ℕ → List (List ℕ × List ℕ)
files_of size =
    (codes "model.txt", model_text size)
    ∷ (codes "shop.rux", rules_text)
    ∷ (codes "import.ti", script_text)
    ∷ (codes "one.csv", repeated (units_line size) size)
    ∷ (codes "two.csv", repeated (price_line size) size)
    ∷ (codes "one.txt", first_user)
    ∷ (codes "two.txt", second_user)
    ∷ []
