-- From the lines back to what they tell.
pub mod WordsApart
pub mod Decimals
pub mod LinesApart
pub mod EqualReports
