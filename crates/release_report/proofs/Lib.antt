mod Adding
mod Writing
