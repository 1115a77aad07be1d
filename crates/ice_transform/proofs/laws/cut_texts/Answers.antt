use Rattle.ice_transform.proofs.CutOrder.{keeps, begun}
use Rattle.ice_transform.proofs.Points.{points_of_text, text_has_points}
use Rattle.ice_transform.proofs.laws.cut_texts.Goals as goal

pub returns-clause-whole : goal.returns-clause-whole
returns-clause-whole c = λ width text s h e. keeps width 0 s text h e

pub returns-clause-short : goal.returns-clause-short
returns-clause-short c = λ width text s h e. begun width 0 s text h e

pub returns-clause-first : goal.returns-clause-first
returns-clause-first c = points_of_text

pub returns-clause-has : goal.returns-clause-has
returns-clause-has c = text_has_points
