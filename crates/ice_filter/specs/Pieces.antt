-- A filter's parts read with texts in place of filters.
use Rattle.std.specs.Prelude.{Bool, true, false, List, [], ◌∷◌, ◌++◌, codes}
use Rattle.ice_filter.specs.declared.predicate.Predicate.{Predicate}
use Rattle.ice_filter.specs.declared.parts.Part as parts
use Rattle.ice_filter.specs.declared.parts.Part.TheVariants.{True, False, And, Or}
use Rattle.ice_filter.specs.declared.parts.Part.TheVariants as part
use Rattle.ice_filter.specs.declared.text.Piece.{Piece}
use Rattle.ice_filter.specs.Texts.{truth_text, predicate_text, enclosed}

abbrev pub truth_piece : Bool → Piece
truth_piece b = record { text = truth_text b; either = false; operator = false }

abbrev pub predicate_piece : Predicate → Piece
predicate_piece l = record { text = predicate_text l; either = false; operator = false }

abbrev pub both_of : Piece → Piece → Piece
both_of p q = record {
  text = enclosed p.either p.text ++ (codes " and " ++ enclosed q.operator q.text);
  either = false;
  operator = true;
}

abbrev pub either_of : Piece → Piece → Piece
either_of p q = record { text = p.text ++ (codes " or " ++ enclosed q.either q.text); either = true; operator = true }

abbrev pub top : List Piece → Piece
top [] = truth_piece true
top (p ∷ ps) = p

abbrev pub rest : List Piece → List Piece
rest [] = []
rest (p ∷ ps) = ps

-- the texts that wait for an operator after one more part, the last one first
abbrev pub put : List Piece → parts.Part Predicate → List Piece
put ps True = truth_piece true ∷ ps
put ps False = truth_piece false ∷ ps
put ps (part.Predicate l) = predicate_piece l ∷ ps
put ps And = both_of (top (rest ps)) (top ps) ∷ rest (rest ps)
put ps Or = either_of (top (rest ps)) (top ps) ∷ rest (rest ps)

abbrev pub put_all : List Piece → List (parts.Part Predicate) → List Piece
put_all ps [] = ps
put_all ps (x ∷ xs) = put_all (put ps x) xs
