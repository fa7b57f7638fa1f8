-- The units of which rows are, and the row that is taken.
pub mod StageRows
pub mod RowUnits
pub mod TakenRow
pub mod BaseRows
pub mod BestOf
