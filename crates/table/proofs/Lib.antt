-- What is printed in each case, and that a text has one output.
pub mod Counting
pub mod Answers
pub mod Reading
pub mod One
