mod Front
