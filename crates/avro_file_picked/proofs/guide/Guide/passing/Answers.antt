use Rattle.avro_file_picked.proofs.Guided.{passing_alike}
use Rattle.avro_file_picked.proofs.guide.Guide.passing.Goals as goal

pub returns : goal.returns
returns c = λ field_paths t is. rw (← is.0) (passing_alike field_paths c.args.self.now is.1)
