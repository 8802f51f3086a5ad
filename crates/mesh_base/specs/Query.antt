-- all definitions of a query, in one place
pub use Rattle.mesh_base.specs.Scan.{is_in, scan}
pub use Rattle.mesh_base.specs.Paths.{InsidePath, Joined, JoinedToOne}
pub use Rattle.mesh_base.specs.Parts.{IsPart, IsCovered, is_reached, grown, grown_by, joined_to, part}
pub use Rattle.mesh_base.specs.Walk.{distance, is_nearer, nearest, start, next, IsWalk, walk_of_most, walk}
pub use Rattle.mesh_base.specs.Answer.{probed, walked, arrived, route, IsAnswerBy, IsAnswer, answer_by, answer}
pub use Rattle.mesh_base.specs.Reads.{degrees, last_reads, read_bound}
