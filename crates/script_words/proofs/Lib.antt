pub mod Numbers
pub mod Splitting
pub mod PairsAgain
pub mod WordsAgain
pub mod Written
pub mod WordsWritten
pub mod OutcomesWritten
pub mod Lengths
