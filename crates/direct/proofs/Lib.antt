-- The laws behind direct evaluation.
--   Counting    room in totals; what counting a list of arrivals gives at one task
--   Sending     what a task sends keeps its cylinder, and a value of 32 bits
--   Turns       one turn of each loop of the walk
--   Reading     what the counts give that are not refused; lent values
--   Arrivals    what comes to a task on the walk is what it receives, order forgotten
--   Walked      the walk gives the totals of direct evaluation
--   Cost        how many records the walk takes in
--   Answers     what the function hands back, by the answers of its checks
--   Law         THE LAW: what a task receives is what all its inputs bring, order forgotten
pub mod Counting
pub mod Sending
pub mod Turns
pub mod Reading
pub mod Arrivals
pub mod Walked
pub mod Cost
pub mod Answers
pub mod Law
