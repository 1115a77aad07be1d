use Rattle.ice_project.proofs.FileLaws.{file_sound}
use Rattle.ice_project.proofs.laws.bounds_soundness.Goals as goal

pub returns : goal.returns
returns c = file_sound (record {
  itself = c.order_of_cells.ensures.itself;
  no_other = c.order_of_cells.ensures.no_other;
  turned = c.order_of_cells.ensures.turned;
  less = c.order_of_cells.ensures.less;
})
