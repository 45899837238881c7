-- Spans of characters, as they are given and spelled. The project's own choice.
use Rattle.std.specs.Prelude.{ℕ, zero, suc, ◌+◌, Bool, ◌&&◌, ◌==◌, nat_le, if◌then◌else◌, List, [], ◌∷◌, ◌++◌, Option, None, Some, codes}
use Rattle.std.specs.Option.{option_map_or}
use Rattle.std.specs.Str.{encode_utf8_all}
use Rattle.brl_lines.specs.Visible.{visible_text}
use Rattle.brl_without.specs.declared.span.Span.{Span}

-- a character is one of a span's
abbrev pub is_in : Span → ℕ → Bool
is_in span c = nat_le span.first c && nat_le c span.last

-- ---- How they are given

-- what the characters after the first of a span say of its last: it follows two full stops
abbrev pub end_after : List ℕ → Option ℕ
end_after (one ∷ two ∷ last ∷ rest) = if one == 46 && two == 46 then Some last else None
end_after rest = None

-- the last character of the span that begins with a character, before the others
abbrev pub last_of : ℕ → List ℕ → ℕ
last_of first rest = option_map_or (λ last. last) (end_after rest) first

-- how many of the others a span takes
abbrev pub length_of : List ℕ → ℕ
length_of rest = option_map_or (λ last. 3) (end_after rest) 0

-- The spans that characters give, but for the first of them that a span has taken. Two full stops
-- between two characters make a span of these, and each other character is a span of its own.
unfoldable pub spans_from : ℕ → List ℕ → List Span
spans_from taken [] = []
spans_from (suc taken) (c ∷ rest) = spans_from taken rest
spans_from zero (c ∷ rest) = record { first = c; last = last_of c rest } ∷ spans_from (length_of rest) rest

-- ---- How they are spelled

-- a span as it is spelled: at most two characters one by one, else with two full stops between
abbrev pub spelled_span : Span → List ℕ
spelled_span span =
    if span.first == span.last then encode_utf8_all (visible_text (span.first ∷ []))
    else if span.last == span.first + 1 then encode_utf8_all (visible_text (span.first ∷ span.last ∷ []))
    else encode_utf8_all (visible_text (span.first ∷ [])) ++ (codes ".." ++ encode_utf8_all (visible_text (span.last ∷ [])))

-- a span begins right after another
abbrev pub continues : Span → Span → Bool
continues span next = next.first == span.last + 1

-- a span and those after it; where one follows on it, they are spelled as one
unfoldable pub spelled_after : Span → List Span → List ℕ
spelled_after span [] = spelled_span span
spelled_after span (next ∷ others) =
    if continues span next then spelled_after (record { first = span.first; last = next.last }) others
    else spelled_span span ++ spelled_after next others

-- spans as they are spelled
abbrev pub spelled_spans : List Span → List ℕ
spelled_spans [] = []
spelled_spans (span ∷ others) = spelled_after span others
