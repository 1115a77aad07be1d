use Rattle.path_arena.proofs.Reserved.{reserved}
use Rattle.path_arena.proofs.laws.reserved_interns_succeed.Goals as goal

pub returns-clause-succeed : goal.returns-clause-succeed
returns-clause-succeed c a b ss answers run room = (reserved a b ss answers run room).0

pub returns-clause-strings : goal.returns-clause-strings
returns-clause-strings c a b ss answers run room = (reserved a b ss answers run room).1
