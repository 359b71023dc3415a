-- The lines of a listing, as text in ASCII:
--
--     place type length answer     the heading
--     0 4 11 0                     a message: its place in the stream, its type, its length and the number that it is answered with
--     11 7 6 skip                  a message of a type that RFC 7854 does not have, in the same way: it is skipped
--     17 - - 3                     no message is split off here: the place, and the number of the splitter's refusal
--     end 17                       the place after the last message
use Rattle.std.specs.Prelude.{ℕ, List, [], ◌∷◌, ◌++◌, Option, Some, None}
use Prim.Native.Char.{code}
use Prim.Native.String.{String}
use Rattle.decimal.specs.Decimal.{decimal}

-- the codes of a text's characters
abbrev pub ascii : String → List ℕ
ascii String.[] = []
ascii (String.◌∷◌ c s) = code c ∷ ascii s

-- fields with a space between any two, and a newline at the end
abbrev pub line : List (List ℕ) → List ℕ
line [] = ascii "\n"
line (f ∷ []) = f ++ ascii "\n"
line (f ∷ g ∷ l) = f ++ (ascii " " ++ line (g ∷ l))

abbrev pub heading : List ℕ
heading = line (ascii "place" ∷ ascii "type" ∷ ascii "length" ∷ ascii "answer" ∷ [])

-- the number that a message is answered with, or that it is skipped
abbrev pub answer_text : Option ℕ → List ℕ
answer_text (Some n) = decimal n
answer_text None = ascii "skip"

abbrev pub message_line : (place kind length : ℕ) → Option ℕ → List ℕ
message_line place kind length answer = line (decimal place ∷ decimal kind ∷ decimal length ∷ answer_text answer ∷ [])

abbrev pub refused_line : (place number : ℕ) → List ℕ
refused_line place number = line (decimal place ∷ ascii "-" ∷ ascii "-" ∷ decimal number ∷ [])

abbrev pub end_line : (place : ℕ) → List ℕ
end_line place = line (ascii "end" ∷ decimal place ∷ [])
